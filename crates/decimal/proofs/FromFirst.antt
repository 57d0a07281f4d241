-- The digits from the first on, as the code writes them, are those of repeated division, as the definition has them: `padded` can also be
-- taken apart at its last digit, since cutting off the first digit and the last commute. Assumes nothing.
use Rattle.std.proofs.Common.{◌≡◌, refl, sym, ap, subst, ◌∙◌, ◌⊎◌, inl, inr, ⊎_elim, List, [], ◌∷◌, ◌++◌, ℕ, zero, suc, ◌+◌, ◌-◌, ◌*◌, ◌≤◌, ◌<◌, ◌/◌, ◌%◌, ◌^◌, mod-eq_of_lt, mod-lt, mul_assoc, arith, length}
use Rattle.std.proofs.Math.Nat.{div-div-eq-div-mul, mul-add-mod_self_left, div-add-mod, pow-succ', one-le-pow}
use borrow.Author.Tests.{lt-ltb, le-ltb}
use Rattle.decimal.specs.Decimal.{digits, decimal_of}
use Rattle.decimal.specs.Padded.{padded, Sized}

ten_some : (k : ℕ) → 1 ≤ 10 ^ k
ten_some k = one-le-pow k 10 (omega arith)

-- ---- a turn of `put_digits`, with k digits left of n
pub padded-none : (k n : ℕ) → k ≤ 0 → padded k n ≡ []
unfolding padded
padded-none zero n h = refl
padded-none (suc k) n h = absurd (omega arith)

-- what it writes
pub digit_step : (k n byte rest unit : ℕ) → 0 < k → unit ≡ 10 ^ (k - 1) → byte ≡ 48 + n / unit → rest ≡ n % unit
    → padded k n ≡ (byte ∷ []) ++ padded (k - 1) rest
unfolding padded
digit_step zero n byte rest unit h u b r = absurd (omega arith)
digit_step (suc k) n byte rest unit h u b r =
    let e : suc k - 1 ≡ k = omega arith in
    rw (r, b, u, e)

-- what it leaves
pub digit_rest : (k n rest unit : ℕ) → unit ≡ 10 ^ (k - 1) → rest ≡ n % unit → rest < 10 ^ (k - 1)
digit_rest k n rest unit u r = rw (r, u) (mod-lt n (ten_some (k - 1)))

-- ---- the last digit of `padded`
-- n in tens of u: what lies above 10 * u, and below
cut : (u n : ℕ) → n ≡ 10 * (u * (n / (10 * u))) + n % (10 * u)
cut u n = sym (ap (λ (z : ℕ). z + n % (10 * u)) (sym (mul_assoc 10 u (n / (10 * u)))) ∙ div-add-mod n (10 * u))

cut_div : (u n : ℕ) → 0 < u → n % (10 * u) / 10 ≡ n / 10 % u
cut_div u n h =
    let r : n % (10 * u) < 10 * u = mod-lt n (omega arith) in
    let e : n / 10 ≡ u * (n / (10 * u)) + n % (10 * u) / 10 = omega (arith, cut u n) in
    let s : n % (10 * u) / 10 < u = omega arith in
    sym (ap (λ (z : ℕ). z % u) e ∙ mul-add-mod_self_left u (n / (10 * u)) (n % (10 * u) / 10) ∙ mod-eq_of_lt s)

cut_mod : (u n : ℕ) → n % (10 * u) % 10 ≡ n % 10
cut_mod u n = omega (arith, cut u n)

padded-last : (k n : ℕ) → n < 10 ^ suc k → padded (suc k) n ≡ padded k (n / 10) ++ ((48 + n % 10) ∷ [])
unfolding padded
padded-last zero n h = let e : n / 1 ≡ n % 10 = omega arith in ap (λ (z : ℕ). (48 + z) ∷ []) e
padded-last (suc j) n h =
    let i = padded-last j (n % 10 ^ suc j) (mod-lt n (ten_some (suc j))) in
    let e : n / 10 ^ suc j ≡ n / 10 / 10 ^ j = ap (λ (z : ℕ). n / z) (pow-succ' 10 j) ∙ sym (div-div-eq-div-mul n 10 (10 ^ j)) in
    let f : n % 10 ^ suc j / 10 ≡ n / 10 % 10 ^ j = ap (λ (z : ℕ). n % z / 10) (pow-succ' 10 j) ∙ cut_div (10 ^ j) n (ten_some j) in
    let g : n % 10 ^ suc j % 10 ≡ n % 10 = ap (λ (z : ℕ). n % z % 10) (pow-succ' 10 j) ∙ cut_mod (10 ^ j) n in
    (λ t. (48 + e t) ∷ i t) ∙ (λ t. ((48 + n / 10 / 10 ^ j) ∷ padded j (f t)) ++ ((48 + g t) ∷ []))

-- ---- by repeated division: a number of k + 1 digits, with any bound above k
digits_is : (f k n : ℕ) → k ≤ f → n < 10 ^ suc k → (k ≡ 0) ⊎ (10 ^ k ≤ n) → digits (suc f) n ≡ padded (suc k) n
unfolding digits
digits_is f zero n b h o = rw (lt-ltb n 10 h) (sym (padded-last 0 n h ∙ ap (λ (xs : List ℕ). xs ++ ((48 + n % 10) ∷ [])) (padded-none 0 (n / 10) (omega arith))))
digits_is zero (suc j) n b h o = absurd (omega arith)
digits_is (suc f) (suc j) n b h o =
    let many : 10 * 10 ^ j ≤ n = ⊎_elim (λ z. absurd (omega arith)) (λ z. omega (arith, pow-succ' 10 j)) o in
    let some : 1 ≤ 10 ^ j = ten_some j in
    let few : n / 10 < 10 ^ suc j = omega (arith, pow-succ' 10 (suc j)) in
    let i : digits (suc f) (n / 10) ≡ padded (suc j) (n / 10) = digits_is f j (n / 10) (omega arith) few (inr (omega arith)) in
    rw (le-ltb n 10 (omega arith)) (ap (λ (xs : List ℕ). xs ++ ((48 + n % 10) ∷ [])) i ∙ sym (padded-last (suc j) n h))

pub decimal_is : (n k : ℕ) → Sized n k → padded k n ≡ decimal_of n
unfolding decimal_of
decimal_is n zero v = absurd (omega (arith, v.some))
decimal_is n (suc k) v =
    let e : suc k - 1 ≡ k = omega arith in
    let o : (k ≡ 0) ⊎ (10 ^ k ≤ n) = ⊎_elim (λ z. inl (omega arith)) (λ z. inr (subst (λ (i : ℕ). 10 ^ i ≤ n) e z)) v.above in
    sym (digits_is 9 k n (omega (arith, v.most)) v.below o)

-- ---- how many there are
padded-length : (k n : ℕ) → length (padded k n) ≡ k
unfolding padded
padded-length zero n = refl
padded-length (suc k) n = ap suc (padded-length k (n % 10 ^ k))

pub decimal_length : (n k : ℕ) → Sized n k → k ≡ length (decimal_of n)
decimal_length n k v = sym (padded-length k n) ∙ ap length (decimal_is n k v)
