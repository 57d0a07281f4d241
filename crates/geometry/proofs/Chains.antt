-- Chains of tests: the code tests a, and then b or not; the definition says a && b, or a || b. `s` is a's result in the code.
use Rattle.std.proofs.Common.{◌≡◌, refl, sym, ◌∙◌, Bool, true, false, ◌&&◌, ◌||◌}
use Rattle.geometry.specs.Signed.{no_way}

pub and_then : {a b s r : Bool} → s ≡ a → s ≡ true → r ≡ b → r ≡ (a && b)
and_then {a = true} p t q = q
and_then {a = false} p t q = no_way (sym p ∙ t)

pub and-stop : {a s : Bool} (b : Bool) → s ≡ a → s ≡ false → false ≡ (a && b)
and-stop {a = true} b p t = no_way (sym t ∙ p)
and-stop {a = false} b p t = refl

pub or-stop : {a s : Bool} (b : Bool) → s ≡ a → s ≡ true → true ≡ (a || b)
or-stop {a = true} b p t = refl
or-stop {a = false} b p t = no_way (sym p ∙ t)

pub or_then : {a b s r : Bool} → s ≡ a → s ≡ false → r ≡ b → r ≡ (a || b)
or_then {a = true} p t q = no_way (sym t ∙ p)
or_then {a = false} p t q = q
