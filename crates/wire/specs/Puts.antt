-- Elements put at a place of a buffer, bytes as a rule: one relation for every write (`Puts`), and what is left of one that goes in steps (`Left`).
-- A write past the end stores nothing and still counts, so the laws ask for no room, and the same writer measures and writes.
use Rattle.std.specs.Prelude.{◌≡◌, refl, ◌⊎◌, List, [], ◌∷◌, ◌++◌, ℕ, suc, ◌+◌, ◌≤◌, ◌<◌, min, length, take, drop, set}
use Rattle.std.proofs.Common.{sym, ap, ◌∙◌, inl, inr, ⊎_elim, arith, length-append, append_assoc, drop-drop}
use Rattle.std.proofs.Math.Decide.{dec_le}
use Rattle.std.proofs.lemmas.List.Edits.{sets, sets-eq}
use Rattle.std.proofs.Math.Seq.{length-sets, set_out}

-- the largest usize
abbrev pub last_place : ℕ
last_place = 18446744073709551615

-- a place counts no further than the largest usize
abbrev pub capped : ℕ → ℕ
capped n = min n last_place

-- l with xs from the place at on is l' (what would stand past the end is left out), and r is the place after it
pub record Puts {X : Type 0} (l : List X) (at : ℕ) (xs l' : List X) (r : ℕ) : Type 0 where
  pub is : l' ≡ sets l at xs
  pub to : r ≡ capped (at + length xs)
  -- no slice is longer; the laws use it
  pub small : length l ≤ last_place

sets_out : {X : Type 0} (xs l : List X) (i : ℕ) → length l ≤ i → sets l i xs ≡ l
sets_out [] l i h = refl
sets_out (x ∷ xs) l i h =
    let e : set l i x ≡ l = set_out l i x h in
    rw e (sets_out xs l (suc i) (omega arith))

sets-append : {X : Type 0} (xs ys l : List X) (i : ℕ) → sets l i (xs ++ ys) ≡ sets (sets l i xs) (i + length xs) ys
sets-append [] ys l i = let e : i + 0 ≡ i = omega arith in rw e
sets-append (x ∷ xs) ys l i =
    let e : i + suc (length xs) ≡ suc i + length xs = omega arith in
    rw e (sets-append xs ys (set l i x) (suc i))

pub le-or : (a b : ℕ) → (a ≤ b) ⊎ (b ≤ a)
le-or a b = by (dec_le a b)
  where
    by : Dec (a ≤ b) → (a ≤ b) ⊎ (b ≤ a)
    by (yes h) = inl h
    by (no h) = inr (omega arith)

module _ {X : Type 0} {l xs l' : List X} {at p : ℕ} (a : Puts l at xs l' p) where
  pub puts_length : length l' ≡ length l
  puts_length = ap length a.is ∙ length-sets l at xs

  pub puts_small : p ≤ last_place
  puts_small = omega (arith, a.to)

  pub puts_as : {ys : List X} → xs ≡ ys → Puts l at ys l' p
  puts_as e = record { is = a.is ∙ (λ i. sets l at (e i)); to = a.to ∙ (λ i. capped (at + length (e i))); small = a.small }

  -- one after the other
  pub puts_then : {ys l'' : List X} {r : ℕ} → Puts l' p ys l'' r → Puts l at (xs ++ ys) l'' r
  puts_then {ys} {l''} {r} b = record {
    is = b.is ∙ ⊎_elim here past (le-or (at + length xs) last_place) ∙ sym (sets-append xs ys l at);
    to = simp length-append (omega (arith, a.to, b.to));
    small = a.small;
  }
    where
      here : at + length xs ≤ last_place → sets l' p ys ≡ sets (sets l at xs) (at + length xs) ys
      here h = let e : p ≡ at + length xs = omega (arith, a.to) in λ i. sets (a.is i) (e i) ys

      past : last_place ≤ at + length xs → sets l' p ys ≡ sets (sets l at xs) (at + length xs) ys
      past h =
          let s : length l' ≤ p = omega (arith, a.to, a.small, puts_length) in
          let t : length (sets l at xs) ≤ at + length xs = omega (arith, a.small, length-sets l at xs) in
          sets_out ys l' p s ∙ a.is ∙ sym (sets_out ys (sets l at xs) (at + length xs) t)

  -- where there is room: the rest of the buffer is as before
  pub puts_room : at + length xs ≤ length l → (l' ≡ take at l ++ xs ++ drop (at + length xs) l) × (p ≡ at + length xs)
  puts_room h = (a.is ∙ sets-eq xs l at h, omega (arith, a.to, a.small))

pub puts_none : {X : Type 0} (l : List X) (at : ℕ) → length l ≤ last_place → at ≤ last_place → Puts l at [] l at
puts_none l at f g = record { is = refl; to = omega arith; small = f }

pub puts_one : {X : Type 0} (l : List X) (at : ℕ) (b : X) → length l ≤ last_place → at < length l → Puts l at (b ∷ []) (set l at b) (at + 1)
puts_one l at b f g = record { is = refl; to = omega arith; small = f }

-- all at once, where there is room
pub puts_whole : {X : Type 0} (l : List X) (at : ℕ) (xs : List X) → length l ≤ last_place → at + length xs ≤ length l
    → Puts l at xs (take at l ++ (xs ++ drop (length xs) (drop at l))) (at + length xs)
puts_whole l at xs f g = record { is = sym (sets-eq xs l at g ∙ simp (append_assoc, drop-drop) refl); to = omega arith; small = f }

-- what is left to do of a text: rest at p in l' completes whole at at in l
pub record Left {X : Type 0} (l : List X) (at : ℕ) (whole l' : List X) (p : ℕ) (rest : List X) : Type 0 where
  pub small : length l ≤ last_place
  pub same : length l' ≡ length l
  pub low : p ≤ last_place
  pub done : (l'' : List X) (r : ℕ) → Puts l' p rest l'' r → Puts l at whole l'' r

pub left-all : {X : Type 0} (l : List X) (at : ℕ) (whole : List X) → length l ≤ last_place → at ≤ last_place → Left l at whole l at whole
left-all l at whole f g = record { small = f; same = refl; low = g; done = λ l'' r h. h }

module _ {X : Type 0} {l whole l' rest : List X} {at p : ℕ} (v : Left l at whole l' p rest) where
  pub left_less : {xs ys l'' : List X} {q : ℕ} → rest ≡ xs ++ ys → Puts l' p xs l'' q → Left l at whole l'' q ys
  left_less {xs} {ys} {l''} {q} e h = record {
    small = v.small;
    same = puts_length h ∙ v.same;
    low = puts_small h;
    done = λ m r k. v.done m r (rw e (puts_then h k));
  }

  pub left-none : rest ≡ [] → Puts l at whole l' p
  left-none e = v.done l' p (rw e (puts_none l' p (omega (arith, v.small, v.same)) v.low))
