-- `write_i32`'s two ways out: too little room, and a write that fits whole, which `puts_room` turns into the list. Assumes nothing.
use Rattle.std.proofs.Common.{◌≡◌, ap, List, ℕ, ◌≤◌, ◌<◌, length}
use Rattle.std.specs.Prelude.{ℤ, Some, None}
use borrow.Author.Tests.{le-leb, lt-leb}
use Rattle.wire.specs.Puts.{Puts, puts_room}
use Rattle.decimal.specs.Decimal.{int_text}
use Rattle.decimal.specs.Written.{after, written_of, buffer_after}

module _ (l : List ℕ) (at : ℕ) (z : ℤ) (h : length l < after at z) where
  pub refused : None ≡ written_of l at z
  unfolding written_of
  refused = rw (lt-leb (after at z) (length l) h)

  pub kept : l ≡ buffer_after l at z
  unfolding buffer_after
  kept = rw (lt-leb (after at z) (length l) h)

module _ (l : List ℕ) (at : ℕ) (z : ℤ) (h : after at z ≤ length l) {l' : List ℕ} {r : ℕ} (p : Puts l at (int_text z) l' r) where
  pub written : Some r ≡ written_of l at z
  unfolding written_of
  written = rw (le-leb (after at z) (length l) h) (ap Some (puts_room p h).1)

  pub stored : l' ≡ buffer_after l at z
  unfolding buffer_after
  stored = rw (le-leb (after at z) (length l) h) (puts_room p h).0
