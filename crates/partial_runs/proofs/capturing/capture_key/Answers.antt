use Rattle.std.proofs.Common.{◌≡◌, sym, subst}
use Rattle.tree_access.specs.Keys.{Agree}
use Rattle.disk.specs.Partials.{IsIn, AreCaptured, found_in}
use Rattle.disk.specs.declared.partial.Area.TheVariants.{Units, Presets}
use Rattle.partial_runs.specs.Captures.{AreAllCaptured, links}
use Rattle.partial_runs.proofs.Captured.{captures_so, is_held}
use Rattle.partial_runs.proofs.OnKeys.{on_cell, on_marked, on_presets, on_links}
use Rattle.partial_runs.proofs.capturing.capture_key.Goals as goal

pub returns-in-Cell-clause-captures : goal.returns-in-Cell-clause-captures
returns-in-Cell-clause-captures g c =
    let new = c.capture_path.new.partial in
    captures_so (g.D.Disk.holds c.args.disk.now) c.args.partial.now new c.capture_path.result (λ t found. AreCaptured t found (λ q. q ≡ c.in-Cell.path)) (λ t found. Agree c.args.key.now found t.entries)
    (λ t is captured. subst (λ key. Agree key (found_in new) t.entries) (sym c.in-Cell.is) (on_cell t (found_in new) (is_held t new is) c.in-Cell.path captured))
    c.capture_path.ensures.captures

pub returns-in-Marked-clause-captures : goal.returns-in-Marked-clause-captures
returns-in-Marked-clause-captures g c =
    let new = c.capture_area.new.partial in
    captures_so (g.D.Disk.holds c.args.disk.now) c.args.partial.now new c.capture_area.result (λ t found. AreCaptured t found (IsIn (Units c.place.result))) (λ t found. Agree c.args.key.now found t.entries)
    (λ t is captured. subst (λ key. Agree key (found_in new) t.entries) (sym c.in-Marked.is)
    (on_marked t (found_in new) (is_held t new is) c.in-Marked.scope c.in-Marked.field-1 (subst (λ place. AreCaptured t (found_in new) (IsIn (Units place))) c.place.ensures captured)))
    c.capture_area.ensures.captures

pub returns-in-Presets-clause-captures : goal.returns-in-Presets-clause-captures
returns-in-Presets-clause-captures g c =
    let new = c.capture_area-in-Presets.new.partial in
    captures_so (g.D.Disk.holds c.args.disk.now) c.args.partial.now new c.capture_area-in-Presets.result (λ t found. AreCaptured t found (IsIn Presets)) (λ t found. Agree c.args.key.now found t.entries)
    (λ t is captured. subst (λ key. Agree key (found_in new) t.entries) (sym c.in-Presets.is) (on_presets t (found_in new) (is_held t new is) captured))
    c.capture_area-in-Presets.ensures.captures

pub returns-in-Links-clause-captures : goal.returns-in-Links-clause-captures
returns-in-Links-clause-captures g c =
    let new = c.capture_areas.new.partial in
    captures_so (g.D.Disk.holds c.args.disk.now) c.args.partial.now new c.capture_areas.result (λ t found. AreAllCaptured t found links) (λ t found. Agree c.args.key.now found t.entries)
    (λ t is all. subst (λ key. Agree key (found_in new) t.entries) (sym c.in-Links.is) (on_links t (found_in new) (is_held t new is) all))
    c.capture_areas.ensures.captures
