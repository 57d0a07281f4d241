-- The columns of a buffer are lent and come back one after the other: then each is what came back of it.
use Rattle.std.proofs.Common.{◌*◌, ◌≤◌, ◌≡◌, sym, subst, ◌∙◌, List, arith, length}
use Rattle.tree.specs.Limits.{most_nodes}
use Rattle.joining.specs.Buffers.{column}
use Rattle.joining.proofs.Blocks.{with_column, Lent, lent}

module _ {A : Type 0} (R S : List A → List A → Type 0) (l a b : List A) where
  abbrev l₁ : List A
  l₁ = with_column 0 l a

  abbrev l₂ : List A
  l₂ = with_column 1 l₁ b

  module _ (room : 2 * most_nodes ≤ length l) (sa : length a ≡ length (column 0 l)) (sb : length b ≡ length (column 1 l₁)) (r : R (column 0 l) a) (s : S (column 1 l₁) b) where
    first : Lent 0 a l l₁
    first = lent 0 l a (omega arith) sa

    second : Lent 1 b l₁ l₂
    second = lent 1 l₁ b (omega (arith, first.size)) sb

    pub two : R (column 0 l) (column 0 l₂) × S (column 1 l) (column 1 l₂)
    two = (
      subst (R (column 0 l)) (sym (second.other 0 (λ e. omega arith) ∙ first.own)) r,
      subst (λ u. S u (column 1 l₂)) (first.other 1 (λ e. omega arith)) (subst (S (column 1 l₁)) (sym second.own) s),
    )

    module _ (T : List A → List A → Type 0) (d : List A) (more : 3 * most_nodes ≤ length l) (sd : length d ≡ length (column 2 l₂)) (t : T (column 2 l₂) d) where
      abbrev l₃ : List A
      l₃ = with_column 2 l₂ d

      third : Lent 2 d l₂ l₃
      third = lent 2 l₂ d (omega (arith, first.size, second.size)) sd

      pub three : R (column 0 l) (column 0 l₃) × (S (column 1 l) (column 1 l₃) × T (column 2 l) (column 2 l₃))
      three = (
        subst (R (column 0 l)) (sym (third.other 0 (λ e. omega arith))) two.0,
        (
          subst (S (column 1 l)) (sym (third.other 1 (λ e. omega arith))) two.1,
          subst (λ u. T u (column 2 l₃)) (second.other 2 (λ e. omega arith) ∙ first.other 2 (λ e. omega arith)) (subst (T (column 2 l₂)) (sym third.own) t),
        ),
      )
