-- A read puts what it consumed behind what was read before it.
use Rattle.std.proofs.Common.{◌-◌, ◌++◌, rules, length, take, drop, sym, ap, ◌∙◌, subst, le_refl, drop_at, length-take-le}
use Rattle.std.proofs.KnownBytes.{Consumes-trans}
use Rattle.std.proofs.lemmas.Slice.{take-put_mid_below}
use Rattle.std.specs.Io.KnownBytes.{Consumes}
use borrow.Rule.Slice.PartMut.{put_mid, post_of}
use lib.Seq.{take-add, take-append-le}
use Rattle.play.proofs.read_full.Goals as goal

pub loop-done-preserved : goal.loop-done-preserved
loop-done-preserved g c =
    let done = c.loop-done.done in
    let got = c.in_ok-got.got in
    let old = c.loop-done.buffer in
    let room = length old - done in
    let part = c.read.new.buf in
    let new = put_mid done room old part in
    let after = post_of done room old in
    let within = c.loop-done.invariant.1 in
    let front = take-put_mid_below _ _ _ _ _ (le_refl done) within in
    let behind =
    ap (take got) (drop_at (take done old) (part ++ after) done (length-take-le done old within))
    ∙ take-append-le got part after c.in_ok-got.ensures.bound.0 in
    let joined =
    ap (λ l. take done old ++ l) (sym behind)
    ∙ ap (λ l. l ++ take got (drop done new)) (sym front)
    ∙ sym (take-add done got new) in (
      search rules,
      search rules,
      subst (Consumes _ _) joined
          (Consumes-trans _ _ _ _ _ c.loop-done.invariant.2 c.in_ok-got.ensures.bytes.0),
    )
