-- The flat numbers of a list of rectangles, one rectangle more at a time: four numbers after whole fours are one rectangle more, and what is past the room
-- changes nothing of what was gathered.
use Rattle.std.proofs.Common.{ℕ, ◌+◌, ◌-◌, ◌*◌, ◌<◌, ◌≤◌, ◌≡◌, refl, sym, ap, ◌∙◌, Bool, true, false, cond, List, [], ◌∷◌, ◌++◌, arith, ltb, ℤ, pos, length, take, set, replicate, length-append, length-take, take_all, take_at, length-take-le}
use Rattle.std.proofs.Math.ListN.{length-replicate}
use Rattle.std.proofs.Math.Numerals.{unary_clauses}
use Rattle.std.proofs.Math.Seq.{sets, sets-eq, length-sets, take-append-le}
use borrow.Author.Tests.{lt-ltb, ltb-true, ltb-false}
use Rattle.geometry.specs.declared.Rectangle.{Rectangle}
use Rattle.tree.specs.Limits.{most_keepouts}
use Rattle.tree.specs.Memory.{keepouts_of}
use Rattle.rectangles.specs.Rectangles.{room, Gathers, Adds}
use Rattle.rectangles.specs.declared.Flat.{Flat}

abbrev pub four : Rectangle → List ℤ
four k = k.xcoord.lb ∷ k.xcoord.ub ∷ k.ycoord.lb ∷ k.ycoord.ub ∷ []

-- four stores in turn
pub stored : (l : List ℤ) (i : ℕ) (a b c d : ℤ) → set (set (set (set l i a) (i + 1) b) (i + 2) c) (i + 3) d ≡ sets l i (a ∷ b ∷ c ∷ d ∷ [])
stored l i a b c d = simp unary_clauses

-- a rectangle after n
keepouts_snoc : (n : ℕ) (l : List ℤ) (k : Rectangle) → length l ≡ 4 * n → keepouts_of (l ++ four k) ≡ keepouts_of l ++ k ∷ []
unfolding keepouts_of
keepouts_snoc n [] k h = refl
keepouts_snoc n (a ∷ []) k h = absurd (omega (arith, h))
keepouts_snoc n (a ∷ b ∷ []) k h = absurd (omega (arith, h))
keepouts_snoc n (a ∷ b ∷ c ∷ []) k h = absurd (omega (arith, h))
keepouts_snoc n (a ∷ b ∷ c ∷ d ∷ r) k h =
    ap (λ (l : List Rectangle). record { xcoord = record { lb = a; ub = b }; ycoord = record { lb = c; ub = d } } ∷ l) (keepouts_snoc (n - 1) r k (omega (arith, h)))

pub none_yet : Gathers [] (record { bounds = replicate (4 * room) (pos 0); count = 0 })
unfolding keepouts_of
none_yet = record { is = refl; count = refl; long = length-replicate (4 * room) (pos 0) }

module _ (f : Flat) (k : Rectangle) where
  -- no room: f is handed back
  pub is_full : room ≤ f.count → Adds f k f
  is_full h ks g =
      let e : take room (ks ++ k ∷ []) ≡ take room ks = take-append-le room ks (k ∷ []) (omega (arith, h, g.count, length-take room ks)) in
      record { is = g.is ∙ sym e; count = g.count ∙ sym (ap length e); long = g.long }

  -- room: the four numbers go after those that are there
  pub one_more : f.count < room → (b : List ℤ) → b ≡ sets f.bounds (4 * f.count) (four k) → Adds f k (record { bounds = b; count = f.count + 1 })
  one_more h b e ks g =
      record {
        is = ap keepouts_of front ∙ keepouts_snoc f.count (take (4 * f.count) f.bounds) k there ∙ ap (λ (l : List Rectangle). l ++ k ∷ []) (g.is ∙ take_all room ks few) ∙ sym whole;
        count = omega (arith, g.count, ap length whole, ap length (take_all room ks few), length-append ks (k ∷ []));
        long = ap length e ∙ length-sets f.bounds (4 * f.count) (four k) ∙ g.long;
      }
    where
      few : length ks ≤ room
      few = omega (arith, h, g.count, length-take room ks)

      whole : take room (ks ++ k ∷ []) ≡ ks ++ k ∷ []
      whole = take_all room (ks ++ k ∷ []) (omega (arith, h, g.count, length-take room ks, length-append ks (k ∷ [])))

      there : length (take (4 * f.count) f.bounds) ≡ 4 * f.count
      there = length-take-le (4 * f.count) f.bounds (omega (arith, h, g.long))

      front : take (4 * (f.count + 1)) b ≡ take (4 * f.count) f.bounds ++ four k
      front =
          ap (take (4 * (f.count + 1))) (e ∙ sets-eq (four k) f.bounds (4 * f.count) (omega (arith, h, g.long)))
          ∙ take_at (take (4 * f.count) f.bounds ++ four k) _ (4 * (f.count + 1)) (length-append (take (4 * f.count) f.bounds) (four k) ∙ omega (arith, there))

-- of a list with as much room as there is, the first n are the first of as many of n as there is room for
pub all_taken : (n : ℕ) → room ≤ n → (l : List Rectangle) → length l ≡ room → take room l ≡ take n l
all_taken n h l e = take_all room l (omega (arith, e)) ∙ sym (take_all n l (omega (arith, e, h)))

-- of the numbers of n rectangles likewise
pub all_lent : (n : ℕ) → room ≤ n → (l : List ℤ) → length l ≡ 4 * room → take (4 * room) l ≡ take (4 * n) l
all_lent n h l e = take_all (4 * room) l (omega (arith, e)) ∙ sym (take_all (4 * n) l (omega (arith, e, h)))

-- a call that refuses more than an edit takes answers of what is gathered as of all
pub answers_same : {A : Type 0} (x : A) (f : List Rectangle → A) (ks : List Rectangle)
    → cond (ltb most_keepouts (length (take room ks))) x (f (take room ks)) ≡ cond (ltb most_keepouts (length ks)) x (f ks)
answers_same {A} x f ks = by (ltb most_keepouts (length ks)) refl
  where
    by : (t : Bool) → ltb most_keepouts (length ks) ≡ t → cond (ltb most_keepouts (length (take room ks))) x (f (take room ks)) ≡ cond t x (f ks)
    by true e = ap (λ (t : Bool). cond t x (f (take room ks))) (lt-ltb most_keepouts (length (take room ks)) (omega (arith, ltb-true most_keepouts (length ks) e, length-take room ks)))
    by false e =
        let whole : take room ks ≡ ks = take_all room ks (omega (arith, ltb-false most_keepouts (length ks) e)) in
        (λ i. cond (ltb most_keepouts (length (whole i))) x (f (whole i))) ∙ ap (λ (t : Bool). cond t x (f ks)) e
