-- `decimal::count_digits`: the first power above m; past the last power the count is the largest.
use Rattle.std.proofs.Common.{rules, arith, tests, ◌≡◌, refl, sym, ◌⊎◌, inl, inr, ◌≤◌, ◌<◌, ◌-◌, ◌^◌, ℕ, zero, suc, Option, None, Some, MatchOption, unwrap_or}
use Rattle.std.proofs.lemmas.Iterator.{first_from_Range}
use Rattle.decimal.specs.Padded.{Sized}
use Rattle.decimal.proofs.count_digits.Goals as goal

above_by : (m n : ℕ) → 1 ≤ n → ((k : ℕ) → 1 ≤ k → k < n → 10 ^ k ≤ m) → (n ≡ 1) ⊎ (10 ^ (n - 1) ≤ m)
above_by m zero h f = absurd (omega arith)
above_by m (suc zero) h f = inl refl
above_by m (suc (suc n)) h f =
    let e : suc (suc n) - 1 ≡ suc n = omega arith in
    inr (rw e (f (suc n) (omega arith) (omega arith)))

sized_by : (m : ℕ) (r : Option ℕ) → m < 10 ^ 10
    → MatchOption r ((k : ℕ) → 1 ≤ k → k < 10 → 10 ^ k ≤ m) (λ i. (1 ≤ i) × (i < 10) × (m < 10 ^ i) × ((k : ℕ) → 1 ≤ k → k < i → 10 ^ k ≤ m))
    → Sized m (unwrap_or r 10)
sized_by m None b h = record { some = omega arith; most = omega arith; below = b; above = above_by m 10 (omega arith) h }
sized_by m (Some i) b h = record { some = h.0; most = omega (arith, h.1); below = h.2; above = above_by m i h.0 h.3 }

pub returns : goal.returns
returns c =
    rw (sym c.unwrap_or.ensures) at (sized_by c.args.m c.find.result (omega (arith, c.ranges.m.fits))
    (first_from_Range _ _ _ _ (λ i. c.args.m < 10 ^ i) (λ i. 10 ^ i ≤ c.args.m) c.find.ensures.ran (λ x q k. grind (arith, tests)) (λ x q k. (search rules, grind (arith, tests)))))
