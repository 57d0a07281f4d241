-- One read after another: what stands at the start of the buffer.
use Rattle.std.proofs.Common.{◌≡◌, ℕ, ◌+◌, ◌≤◌, List, ◌++◌, length, take, refl, ap, sym, ◌∙◌, arith}
use Rattle.std.proofs.Math.Seq.{take-append-add}
use Rattle.std.proofs.lemmas.List.{length-take-le, take-take}
use Rattle.std.proofs.lemmas.Slice.{take-put_mid}
use borrow.Rule.Slice.PartMut.{put_mid}

-- the first bytes of a buffer whose part from n on was read to
pub front_read : (n m k : ℕ) (buf part : List ℕ) → n ≤ length buf → k ≤ length part → take (n + k) (put_mid n m buf part) ≡ take n buf ++ take k part
front_read n m k buf part h l =
    let whole : take (n + length part) (put_mid n m buf part) ≡ take n buf ++ part = take-put_mid n m buf part (n + length part) refl h in
    let low : n + k ≤ n + length part = omega (arith, l) in
    sym (take-take (n + k) (n + length part) (put_mid n m buf part) low)
    ∙ ap (take (n + k)) whole
    ∙ ap (λ (i : ℕ). take (i + k) (take n buf ++ part)) (sym (length-take-le n buf h))
    ∙ take-append-add (take n buf) part k
