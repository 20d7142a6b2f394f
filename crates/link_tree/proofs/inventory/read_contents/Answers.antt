use Rattle.std.proofs.Common.{[], append-nil, inl, refl, sym}
use Rattle.link_tree.proofs.FileBytes.{contents_short, sized, contents_whole, contents_other, contents_end}
use Rattle.byte_streams.proofs.Taken.{failed_sooner, stops_failed}
use Rattle.link_tree.proofs.Stops.{items_ended, items_kept, items_then, returned}
use Rattle.link_tree.proofs.inventory.read_contents.Goals as goal

pub returns-in_default-clause-contents : goal.returns-in_default-clause-contents
returns-in_default-clause-contents g c bytes e = contents_short _ bytes (rw c.in_default.is at c.in_ok-bytes.ensures.bytes bytes e).0

pub new-requires : goal.new-requires
new-requires g c = sized _ _ c.requires (rw c.in-Some.is at c.in_ok-bytes.ensures.size)

pub returns-in_ok-new-in-Some-eq10-clause-contents : goal.returns-in_ok-new-in-Some-eq10-clause-contents
returns-in_ok-new-in-Some-eq10-clause-contents g c bytes e = rw c.in_ok-new-in-Some-eq10.ensures (contents_whole _ bytes _ _ _ (rw c.in-Some.is at c.in_ok-bytes.ensures.bytes bytes e) _ c.in_ok-read_byte.ensures.next _ c.in-Some-eq10.is c.in-Some-eq10.field-0-test)

pub returns-in-Some-2-clause-contents : goal.returns-in-Some-2-clause-contents
returns-in-Some-2-clause-contents g c bytes e = contents_other _ bytes _ _ _ (rw c.in-Some.is at c.in_ok-bytes.ensures.bytes bytes e) _ c.in_ok-read_byte.ensures.next _ c.in-Some-2.is c.in-Some-2.field-0-test.1

pub returns-in-None-clause-contents : goal.returns-in-None-clause-contents
returns-in-None-clause-contents g c bytes e = contents_end _ bytes _ _ _ (rw c.in-Some.is at c.in_ok-bytes.ensures.bytes bytes e) _ c.in_ok-read_byte.ensures.next c.in-None.is

pub returns-in_err-bytes-clause-stops : goal.returns-in_err-bytes-clause-stops
returns-in_err-bytes-clause-stops g c = failed_sooner _ _ (λ taken few. contents_short _ taken few) _ _ _ _ _ c.in_err-bytes.was (returned _ _ c.from_residual.ensures) c.read_bytes.ensures.taken

pub returns-in_default-clause-stops : goal.returns-in_default-clause-stops
returns-in_default-clause-stops g c bytes e =
    let ended = rw c.in_default.is at c.in_ok-bytes.ensures.bytes bytes e in
    (bytes, [], sym (append-nil bytes), ended.1, inl (contents_short _ bytes ended.0, refl))

pub returns-in_err-read_byte-clause-stops : goal.returns-in_err-read_byte-clause-stops
returns-in_err-read_byte-clause-stops g c =
    stops_failed _ _ _ _ c.from_residual-in_err-read_byte.ensures (items_kept _ _ _ _ (λ bytes e. rw c.in-Some.is at c.in_ok-bytes.ensures.bytes bytes e) _ c.in_err-read_byte.ensures.kept)

pub returns-in-Some-2-clause-stops : goal.returns-in-Some-2-clause-stops
returns-in-Some-2-clause-stops g c = items_then _ _ _ _ (λ bytes e. rw c.in-Some.is at c.in_ok-bytes.ensures.bytes bytes e) _ _ c.in_ok-read_byte.ensures.next _ c.in-Some-2.is

pub returns-in-None-clause-stops : goal.returns-in-None-clause-stops
returns-in-None-clause-stops g c = items_ended _ _ _ _ (λ bytes e. rw c.in-Some.is at c.in_ok-bytes.ensures.bytes bytes e) _ _ c.in_ok-read_byte.ensures.next c.in-None.is
