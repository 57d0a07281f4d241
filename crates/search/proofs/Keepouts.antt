-- Keepouts: the four tests of one in turn, and the scan of a flat list, four numbers each.
use Rattle.std.proofs.Common.{ℕ, ◌+◌, ◌*◌, ◌≤◌, ◌<◌, ◌≡◌, refl, ap, sym, ◌∙◌, Bool, true, false, ◌||◌, List, [], ◌∷◌, ◌++◌, arith, add-one, length, get_or, drop, length-drop, ℤ, pos, drop-cons}
use Rattle.geometry.specs.declared.Point.{Point}
use Rattle.geometry.specs.declared.Interval.{Interval}
use Rattle.geometry.specs.declared.Rectangle.{Rectangle}
use Rattle.geometry.specs.Geometry.{inside, contains, covers, hull, box, blocks}
use Rattle.geometry.specs.Intervals.{covers-hull}
use Rattle.geometry.specs.Signed.{no_way}
use Rattle.tree.specs.Search.{any_of, stops}
use Rattle.tree.specs.Memory.{keepouts_of}
use Rattle.search.specs.Branch.{stops_by, beside_of, keepout_at}

-- ---- one keepout: the four tests in turn
module _ (k : Rectangle) (n : Point) (a b c : Rectangle) where
  pub hit_1 : contains k n ≡ true → true ≡ stops_by k n a b c
  unfolding stops_by
  hit_1 e = rw e

  module _ (e₁ : contains k n ≡ false) where
    pub hit_2 : blocks k a ≡ true → true ≡ stops_by k n a b c
    unfolding stops_by
    hit_2 e = rw (e₁, e)

    module _ (e₂ : blocks k a ≡ false) where
      pub hit_3 : blocks k b ≡ true → true ≡ stops_by k n a b c
      unfolding stops_by
      hit_3 e = rw (e₁, e₂, e)

      pub hit_4 : blocks k b ≡ false → blocks k c ≡ stops_by k n a b c
      unfolding stops_by
      hit_4 e = rw (e₁, e₂, e)

-- ---- a keepout whose intervals have neither coordinate of n stops nothing
-- such an interval contains none that has the coordinate
outside-covers : (i : Interval) (a b : ℤ) → inside i a ≡ false → covers i (hull a b) ≡ false
outside-covers i a b e = by (covers i (hull a b)) refl
  where
    by : (t : Bool) → covers i (hull a b) ≡ t → t ≡ false
    by true h = sym (covers-hull i a b h) ∙ e
    by false h = refl

module _ (k : Rectangle) (n : Point) (ex : inside k.xcoord n.xcoord ≡ false) (ey : inside k.ycoord n.ycoord ≡ false) where
  blocks-none : (m : Point) → blocks k (box n m) ≡ false
  unfolding blocks
  blocks-none m = rw (outside-covers k.xcoord n.xcoord m.xcoord ex, outside-covers k.ycoord n.ycoord m.ycoord ey)

  contains-none : contains k n ≡ false
  unfolding contains
  contains-none = rw ex

  pub stops-none : (q P C : Point) → false ≡ stops q P C n k
  unfolding stops
  stops-none q P C = rw (contains-none, blocks-none q, blocks-none P, blocks-none C)

pub stops_is : (k : Rectangle) (n q P C : Point) → stops_by k n (box n q) (box n P) (box n C) ≡ stops q P C n k
unfolding stops stops_by
stops_is k n q P C = refl

pub beside_not : (k : Rectangle) (n q P C : Point) → beside_of k n ≡ false → false ≡ stops q P C n k
beside_not k n q P C e = by (inside k.xcoord n.xcoord) (inside k.ycoord n.ycoord) refl refl e
  where
    by : (s t : Bool) → inside k.xcoord n.xcoord ≡ s → inside k.ycoord n.ycoord ≡ t → (s || t) ≡ false → false ≡ stops q P C n k
    by true t ex ey h = no_way (sym h)
    by false true ex ey h = no_way (sym h)
    by false false ex ey h = stops-none k n ex ey q P C

-- ---- the list of keepouts, four numbers each
next : (l : List ℤ) (i j : ℕ) → i < length l → j ≡ i + 1 → drop i l ≡ get_or l i (pos 0) ∷ drop j l
next l i j h e = drop-cons l i (pos 0) h ∙ ap (λ (m : ℕ). get_or l i (pos 0) ∷ drop m l) (sym (e ∙ add-one i))

pub keepouts-next : (l : List ℤ) (i : ℕ) → i + 4 ≤ length l → keepouts_of (drop i l) ≡ keepout_at l i ∷ keepouts_of (drop (i + 4) l)
unfolding keepouts_of
keepouts-next l i h =
    ap keepouts_of
    (next l i (i + 1) (omega arith) refl
    ∙ ap (λ (r : List ℤ). get_or l i (pos 0) ∷ r)
    (next l (i + 1) (i + 2) (omega arith) (omega arith)
    ∙ ap (λ (r : List ℤ). get_or l (i + 1) (pos 0) ∷ r)
    (next l (i + 2) (i + 3) (omega arith) (omega arith)
    ∙ ap (λ (r : List ℤ). get_or l (i + 2) (pos 0) ∷ r) (next l (i + 3) (i + 4) (omega arith) (omega arith)))))

keepouts-short : (l : List ℤ) → length l < 4 → keepouts_of l ≡ []
unfolding keepouts_of
keepouts-short [] h = refl
keepouts-short (a ∷ []) h = refl
keepouts-short (a ∷ b ∷ []) h = refl
keepouts-short (a ∷ b ∷ c ∷ []) h = refl
keepouts-short (a ∷ b ∷ c ∷ d ∷ r) h = absurd (omega arith)

-- a test of any keepout, by a scan from the first on
module _ (f : Rectangle → Bool) (l : List ℤ) (i : ℕ) where
  -- the keepouts from i on decide
  abbrev pub Scan : Type 0
  Scan = any_of f (keepouts_of (drop i l)) ≡ any_of f (keepouts_of l)

  pub scan_ends : Scan → length l < i + 4 → false ≡ any_of f (keepouts_of l)
  unfolding any_of
  scan_ends v h = sym (ap (any_of f) (keepouts-short (drop i l) (omega (arith, length-drop i l)))) ∙ v

  module _ (v : Scan) (more : i + 4 ≤ length l) (k : Rectangle) (r : Bool) (ek : k ≡ keepout_at l i) (er : r ≡ f k) where
    turn : any_of f (keepouts_of l) ≡ (r || any_of f (keepouts_of (drop (i + 4) l)))
    unfolding any_of
    turn =
        sym v ∙ ap (any_of f) (keepouts-next l i more)
        ∙ ap (λ (x : Bool). x || any_of f (keepouts_of (drop (i + 4) l))) (sym (er ∙ ap f ek))

    pub scan_hit : r ≡ true → true ≡ any_of f (keepouts_of l)
    scan_hit e = sym (turn ∙ ap (λ (x : Bool). x || any_of f (keepouts_of (drop (i + 4) l))) e)

    pub scan_next : r ≡ false → any_of f (keepouts_of (drop (i + 4) l)) ≡ any_of f (keepouts_of l)
    scan_next e = sym (turn ∙ ap (λ (x : Bool). x || any_of f (keepouts_of (drop (i + 4) l))) e)

-- ---- in chunks of four numbers
keepouts-front : (x r : List ℤ) → length x ≡ 4 → keepouts_of (x ++ r) ≡ keepout_at x 0 ∷ keepouts_of r
unfolding keepouts_of
keepouts-front (a ∷ b ∷ c ∷ d ∷ []) r h = refl
keepouts-front [] r h = absurd (omega arith)
keepouts-front (a ∷ []) r h = absurd (omega arith)
keepouts-front (a ∷ b ∷ []) r h = absurd (omega arith)
keepouts-front (a ∷ b ∷ c ∷ []) r h = absurd (omega arith)
keepouts-front (a ∷ b ∷ c ∷ d ∷ e ∷ y) r h = absurd (omega arith)

-- the chunks are of four numbers, and those that are left decide
pub record Left (f : Rectangle → Bool) (l : List ℤ) (size : ℕ) (rest : List ℤ) : Type 0 where
  pub four : size ≡ 4
  pub is : any_of f (keepouts_of rest) ≡ any_of f (keepouts_of l)

module _ {f : Rectangle → Bool} {l : List ℤ} {size : ℕ} {rest : List ℤ} (v : Left f l size rest) where
  pub left_none : length rest < size → false ≡ any_of f (keepouts_of l)
  unfolding any_of
  left_none h = ap (any_of f) (sym (keepouts-short rest (omega (arith, v.four)))) ∙ v.is

  module _ (x rest' : List ℤ) (e : rest ≡ x ++ rest') (h : length x ≡ size) {k : Rectangle} {r : Bool} (ek : k ≡ keepout_at x 0) (er : r ≡ f k) where
    one : (r || any_of f (keepouts_of rest')) ≡ any_of f (keepouts_of l)
    unfolding any_of
    one = ap (λ (y : Bool). y || any_of f (keepouts_of rest')) (er ∙ ap f ek) ∙ ap (any_of f) (sym (ap keepouts_of e ∙ keepouts-front x rest' (h ∙ v.four))) ∙ v.is

    pub left_hit : r ≡ true → true ≡ any_of f (keepouts_of l)
    left_hit t = rw t at one

    pub left_next : r ≡ false → {size' : ℕ} → size' ≡ size → Left f l size' rest'
    left_next t s = record { four = s ∙ v.four; is = rw t at one }

-- how many there are: a whole number of four
pub keepouts-length : (l : List ℤ) → (4 * length (keepouts_of l) ≤ length l) × (length l < 4 * length (keepouts_of l) + 4)
unfolding keepouts_of
keepouts-length [] = (omega arith, omega arith)
keepouts-length (a ∷ []) = (omega arith, omega arith)
keepouts-length (a ∷ b ∷ []) = (omega arith, omega arith)
keepouts-length (a ∷ b ∷ c ∷ []) = (omega arith, omega arith)
keepouts-length (a ∷ b ∷ c ∷ d ∷ r) = let h = keepouts-length r in (omega (arith, h.0), omega (arith, h.1))
