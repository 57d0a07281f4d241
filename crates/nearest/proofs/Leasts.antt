-- The loop that keeps the least rank and the next: its start, a turn, its end; and when the least is of a branch that is alone the nearest. The idea: the
-- second changes only to what the first leaves, so that whatever is not the least is not below it. This holds of any ranks.
use Rattle.std.proofs.Common.{ℕ, ◌+◌, ◌/◌, ◌%◌, ◌≤◌, ◌<◌, min, max, ◌≡◌, sym, ap, ◌∙◌, ◌≢◌, arith}
use Rattle.std.proofs.Math.Decide.{ℕ_discrete, dec_lt}
use Rattle.nearest.specs.declared.Least.{Least}
use Rattle.nearest.specs.Ranks.{branch_indices, beyond, no_rank}
use Rattle.nearest.specs.Sole.{TwoLeast, Sole}

abbrev pub least_of : ℕ → ℕ → Least
least_of a b = record { first = a; second = b }

module _ (r : ℕ → ℕ) where
  pub starts : TwoLeast r 1 (least_of no_rank no_rank)
  starts = record { least = λ c h l. absurd (omega arith); some = λ h. absurd (omega arith); second = λ c h l. absurd (omega arith) }

  module _ {c a b : ℕ} (v : TwoLeast r c (least_of a b)) (pos : 0 < c) {x a' b' : ℕ} (ex : x ≡ r c) (eb : b' ≡ min b (max a x)) (ea : a' ≡ min a x) where
    low : (i : ℕ) → 0 < i → i < c + 1 → a' ≤ r i
    low i h l = by (ℕ_discrete i c)
      where
        by : Dec (i ≡ c) → a' ≤ r i
        by (yes e) = omega (arith, ap r e)
        by (no n) = omega (arith, v.least i h (omega arith))

    found : a' < no_rank → (i : ℕ) × (0 < i) × (i < c + 1) × (a' ≡ r i)
    found h = by (dec_lt x a)
      where
        by : Dec (x < a) → (i : ℕ) × (0 < i) × (i < c + 1) × (a' ≡ r i)
        by (yes l) = (c, pos, omega arith, omega arith)
        by (no l) = let w = v.some (omega arith) in (w.0, w.1, omega (arith, w.2), omega (arith, w.3))

    next : (i : ℕ) → 0 < i → i < c + 1 → r i ≢ a' → b' ≤ r i
    next i h l n = by (ℕ_discrete i c) (ℕ_discrete (r i) a)
      where
        by : Dec (i ≡ c) → Dec (r i ≡ a) → b' ≤ r i
        by (yes e) d = omega (arith, ap r e)
        by (no m) (yes e) = omega arith
        by (no m) (no k) = omega (arith, v.second i h (omega arith) k)

    pub turn : TwoLeast r (c + 1) (least_of a' b')
    turn = record { least = low; some = found; second = next }

  pub ends : {c n a b : ℕ} → TwoLeast r c (least_of a b) → c ≤ max n 1 → n ≤ c → TwoLeast r n (least_of a b)
  ends v h k =
      record {
        least = λ i p l. v.least i p (omega arith);
        some = λ l. let w = v.some l in (w.0, w.1, omega (arith, w.1, w.2), w.3);
        second = λ i p l. v.second i p (omega arith);
      }

  -- ---- a rank tells its child, so the least is of one branch alone; the next has a greater distance, and so have all others
  pub alone : {n : ℕ} {l : Least} {c : ℕ} → ((i : ℕ) → 0 < i → i < n → r i % branch_indices ≡ i) → TwoLeast r n l → l.first < beyond → l.first / branch_indices < l.second / branch_indices
      → c ≡ l.first % branch_indices → Sole r n c
  alone {n} {l} {c} told v h d e =
      let w = v.some (omega arith) in
      let z : c ≡ w.0 = omega (arith, told w.0 w.1 w.2, w.3) in
      let f : l.first ≡ r c = w.3 ∙ ap r (sym z) in
      record {
        some = omega (arith, w.1);
        in_n = omega (arith, w.2);
        within = omega arith;
        nearer = λ i p k m. omega (arith, v.second i p k (λ y. m (omega (arith, told i p k))));
      }

  -- the same of ranks that are equal
  pub sole-same : {s : ℕ → ℕ} {n c : ℕ} → ((i : ℕ) → 0 < i → i < n → r i ≡ s i) → Sole r n c → Sole s n c
  sole-same {s} {n} {c} same v =
      let e = same c v.some v.in_n in
      record { some = v.some; in_n = v.in_n; within = omega (arith, v.within); nearer = λ i p k m. omega (arith, v.nearer i p k m, same i p k) }
