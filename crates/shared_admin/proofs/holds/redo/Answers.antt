use Rattle.std.proofs.Common.{◌≡◌, List, sym, subst, ap, ◌∙◌, length, refl, inl, inr}
use Rattle.history.specs.declared.row.Request.TheVariants.{Redo}
use Rattle.history.specs.declared.row.Row.{Row}
use Rattle.history.specs.declared.row.RowReply.{RowReply}
use Rattle.history.specs.Rows.{redo_refusal}
use Rattle.shared_admin.specs.Holds.{IsOfToggle, IsReplyOf, IsReplyTo}
use Rattle.shared_admin.proofs.Last.{EndsIn, ends_in_redo, read_reply, last_reply}
use Rattle.shared_admin.proofs.holds.redo.Goals as goal

pub reply_of_toggle-reply-requires : goal.reply_of_toggle-reply-requires
reply_of_toggle-reply-requires g c =
    let ends = subst (λ (rows : List (Row g.row.O.Denot)). EndsIn IsOfToggle rows) (sym (c.rows-rows.ensures.rows ∙ c.in_ok-number.ensures.rows))
    (ends_in_redo IsOfToggle c.args.operator c.args.history.now.rows c.args.n tt (λ refusal. tt) (redo_refusal g.O.Operation.asks c.args.history.now.rows c.args.n)) in
    read_reply IsOfToggle c.rows-rows.result.now c.index-rows-rows.result ends

pub returns-clause-reply : goal.returns-clause-reply
returns-clause-reply g c =
    let ends = subst (λ (rows : List (Row g.row.O.Denot)). EndsIn IsOfToggle rows) (sym (c.rows-rows.ensures.rows ∙ c.in_ok-number.ensures.rows))
    (ends_in_redo IsOfToggle c.args.operator c.args.history.now.rows c.args.n tt (λ refusal. tt) (redo_refusal g.O.Operation.asks c.args.history.now.rows c.args.n)) in
    let count = c.in_ok-number.ensures.number ∙ sym (ap length c.rows-rows.ensures.rows) in
    subst (λ (rows : List (Row g.row.O.Denot)). IsReplyOf rows c.in_ok-number.number c.reply_of_toggle-reply.result) c.rows-rows.ensures.rows
    (subst (λ (reply : RowReply). IsReplyOf c.rows-rows.result.now c.in_ok-number.number reply) (sym c.reply_of_toggle-reply.ensures)
    (last_reply IsOfToggle c.rows-rows.result.now c.index-rows-rows.result c.in_ok-number.number ends count))

pub returns-clause-asked : goal.returns-clause-asked
returns-clause-asked g c =
    let Fits = IsReplyTo g.O.Operation.meaning (Redo c.args.n) in
    let ends = subst (λ (rows : List (Row g.row.O.Denot)). EndsIn Fits rows) (sym (c.rows-rows.ensures.rows ∙ c.in_ok-number.ensures.rows))
    (ends_in_redo Fits c.args.operator c.args.history.now.rows c.args.n (inl refl) (λ refusal. inr (refusal, refl)) (redo_refusal g.O.Operation.asks c.args.history.now.rows c.args.n)) in
    subst Fits (sym c.reply_of_toggle-reply.ensures) (read_reply Fits c.rows-rows.result.now c.index-rows-rows.result ends)
