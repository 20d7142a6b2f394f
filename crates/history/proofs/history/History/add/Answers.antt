use Rattle.std.proofs.Common.{◌<◌, ◌+◌, [], ◌∷◌, ◌++◌, List, length, ap, subst, sym, refl, ◌∙◌, arith}
use Rattle.history.specs.declared.row.Row.{Row}
use Rattle.history.specs.Logs.{Log}
use Rattle.history.specs.Rows.{answered}
use Rattle.history.proofs.Agreed.{plan_from, plan_kept, plan_of_now, plan_rows, plan_stays}
use Rattle.history.specs.Indexes.{is_reader}
use Rattle.history.proofs.Indexed.{agrees_pushed, agrees_alike}
use Rattle.history.proofs.Places.{no_row}
use Rattle.history.proofs.Links.{linked_push}
use Rattle.history.proofs.history.History.add.Goals as goal

pub make_room-requires-clause-few : goal.make_room-requires-clause-few
make_room-requires-clause-few g c =
    let room : length c.self.inside.rows.items < c.self.inside.limit = subst (λ (v : Log g.row.O.Denot). length v.rows < v.limit) (sym c.self.view_is) c.requires.room in
    omega (arith, room, c.self.invariant.0.bounded)

-- the row doesn't exist yet, so it isn't listed
pub make_room-requires-clause-fresh : goal.make_room-requires-clause-fresh
make_room-requires-clause-fresh g c = λ k.
    let rows = c.self.inside.rows.items in
    c.self.invariant.1 k (length rows + 1) ∙ ap (λ o. is_reader g.O.Operation.asks o k) (no_row rows)

pub make_room-requires-clause-from : goal.make_room-requires-clause-from
make_room-requires-clause-from g c =
    plan_from g.met.O.Operation.laws c.self.inside.first c.self.inside.tree c.self.inside.rows.items c.self.inside.limit c.args.self.now c.plan.inside.operation c.plan.inside.outcome c.args.plan
    c.self.view_is c.plan.view_is c.requires.agrees c.self.invariant.0 c.plan.invariant

pub invariant_of-self-in-Ok : goal.invariant_of-self-in-Ok
invariant_of-self-in-Ok g c =
    let room : length c.self.inside.rows.items < c.self.inside.limit = subst (λ (v : Log g.row.O.Denot). length v.rows < v.limit) (sym c.self.view_is) c.requires.room in
    let kept = plan_kept g.met.O.Operation.laws c.self.inside.first c.self.inside.tree c.self.inside.rows.items c.self.inside.limit c.args.self.now c.plan.inside.operation c.plan.inside.outcome c.args.plan
    c.self.view_is c.plan.view_is c.requires.agrees c.self.invariant.0 c.plan.invariant c.args.operator room in
    let asks = g.O.Operation.asks in
    let rows = c.self.inside.rows.items in
    let agrees = agrees_pushed asks c.self.inside.readers c.make_room.new.readers rows (answered c.args.operator c.plan.inside.operation c.plan.inside.outcome) (length rows + 1) refl c.self.invariant.1 c.in-Ok.ensures.listed in (
      rw (c.push_reserved.ensures.items, c.make_room.ensures.items, c.answered.ensures, c.in-Ok.ensures.after) kept,
      rw (c.push_reserved.ensures.items, c.make_room.ensures.items, c.answered.ensures) agrees,
      rw (c.push_reserved-in-Ok.ensures.items, c.make_room.ensures.links, c.push_reserved.ensures.items, c.make_room.ensures.items, c.answered.ensures)
          (linked_push c.self.inside.links.items rows (answered c.args.operator c.plan.inside.operation c.plan.inside.outcome) refl c.self.invariant.2),
    )

-- if memory runs out, the index is unchanged
pub invariant_of-self : goal.invariant_of-self
invariant_of-self g c = (
  rw (c.make_room.ensures.items, c.in-Err.ensures.err) c.self.invariant.0,
  rw c.make_room.ensures.items (agrees_alike g.O.Operation.asks c.self.inside.readers c.make_room.new.readers c.self.inside.rows.items c.self.invariant.1 c.in-Err.ensures.unlisted),
  rw (c.make_room.ensures.links, c.make_room.ensures.items) c.self.invariant.2,
)

pub returns-in-Ok-clause-rows : goal.returns-in-Ok-clause-rows
returns-in-Ok-clause-rows g c =
    let pushed = c.push_reserved.ensures.items ∙ ap (λ (rs : List (Row g.row.O.Denot)). rs ++ c.answered.result ∷ []) c.make_room.ensures.items ∙ ap (λ (row : Row g.row.O.Denot). c.self.inside.rows.items ++ row ∷ []) c.answered.ensures in
    plan_rows g.met.O.Operation.laws c.self.inside.first c.self.inside.tree c.self.inside.rows.items c.self.inside.limit c.args.self.now c.plan.inside.operation c.plan.inside.outcome c.args.plan
    c.self.view_is c.plan.view_is c.requires.agrees c.self.invariant.0 c.plan.invariant c.args.operator c.push_reserved.new.self.items pushed

pub returns-in-Ok-clause-idle : goal.returns-in-Ok-clause-idle
returns-in-Ok-clause-idle g c =
    let pushed = c.push_reserved.ensures.items ∙ ap (λ (rs : List (Row g.row.O.Denot)). rs ++ c.answered.result ∷ []) c.make_room.ensures.items ∙ ap (λ (row : Row g.row.O.Denot). c.self.inside.rows.items ++ row ∷ []) c.answered.ensures in
    plan_stays g.met.O.Operation.laws c.self.inside.first c.self.inside.tree c.self.inside.rows.items c.self.inside.limit c.args.self.now c.plan.inside.operation c.plan.inside.outcome c.args.plan
    c.self.view_is c.plan.view_is c.requires.agrees c.self.invariant.0 c.plan.invariant c.args.operator c.push_reserved.new.self.items pushed

pub returns-in-Ok-clause-now : goal.returns-in-Ok-clause-now
returns-in-Ok-clause-now g c =
    plan_of_now g.met.O.Operation.laws c.self.inside.first c.self.inside.tree c.self.inside.rows.items c.self.inside.limit c.args.self.now c.plan.inside.operation c.plan.inside.outcome c.args.plan
    c.self.view_is c.plan.view_is c.requires.agrees c.self.invariant.0 c.plan.invariant

pub returns-in-Err-clause-now : goal.returns-in-Err-clause-now
returns-in-Err-clause-now g c =
    plan_of_now g.met.O.Operation.laws c.self.inside.first c.self.inside.tree c.self.inside.rows.items c.self.inside.limit c.args.self.now c.plan.inside.operation c.plan.inside.outcome c.args.plan
    c.self.view_is c.plan.view_is c.requires.agrees c.self.invariant.0 c.plan.invariant
