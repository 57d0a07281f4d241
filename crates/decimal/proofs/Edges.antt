-- The texts at the ends of the range, and of 0, computed. Assumes nothing.
use Rattle.std.proofs.Common.{◌≡◌, refl, pos, negsuc}
use Rattle.decimal.specs.Text.{bytes}
use Rattle.decimal.specs.Decimal.{digits, decimal_of, int_text}

none : int_text (pos 0) ≡ bytes "0"
unfolding int_text decimal_of digits
none = refl

most : int_text (pos 2147483647) ≡ bytes "2147483647"
unfolding int_text decimal_of digits
most = refl

least : int_text (negsuc 2147483647) ≡ bytes "-2147483648"
unfolding int_text decimal_of digits
least = refl

most_u32 : decimal_of 4294967295 ≡ bytes "4294967295"
unfolding decimal_of digits
most_u32 = refl
