-- The loop over the children of a node: its start, a turn, its end.
use Rattle.std.proofs.Common.{ℕ, suc, ◌+◌, ◌≤◌, ◌<◌, ◌≡◌, refl, ap, sym, ◌∙◌, subst, Bool, true, false, List, [], inl, inr, arith, length, get_or, set, length-set, Option, None, Some}
use Rattle.tree.specs.declared.NodeIndex.{NodeIndex}
use Rattle.geometry.specs.declared.Rectangle.{Rectangle}
use Rattle.tree.specs.Limits.{no_node}
use Rattle.search.specs.declared.Best.{Best}
use Rattle.search.specs.declared.Query.{Query}
use Rattle.search.specs.declared.NodeView.{NodeView}
use Rattle.search.specs.declared.Examined.{Examined}
use Rattle.search.specs.Walk.{after_branch, index_from, link_in}
use Rattle.search.specs.Columns.{chain, Has, Chained, stack_of}
use Rattle.search.specs.Thin.{thin_branch, thin_children, Pushes}
use Rattle.search.proofs.Chains.{Unrolled, unroll, stack_push, ended, link, reads, is_node}

module _ (ks : List Rectangle) (a : Query) (view : ℕ → NodeView) (wanted : Best → ℕ → Bool) (P : NodeView) (prev : List ℕ) (first : ℕ) (b : Best) (st₀ : List ℕ) (from : ℕ) where
  pub record Turn (st : List ℕ) (found : Best) (top m : ℕ) (child : Option NodeIndex) : Type 0 where
    pub read : child ≡ index_from (link_in child)
    pub linked : Chained prev (link_in child)
    pub part : (x : ℕ) → Has x (chain prev (link_in child)) → Has x (chain prev first)
    pub size : length st ≡ length st₀
    pub room : top + length (chain prev (link_in child)) ≤ from + length (chain prev first)
    pub counted : m + length (chain prev (link_in child)) ≡ length (chain prev first)
    pub is : thin_children ks a view wanted P (chain prev (link_in child)) (record { found = found; stack = stack_of st top })
        ≡ thin_children ks a view wanted P (chain prev first) (record { found = b; stack = stack_of st₀ from })

  pub starts : Chained prev first → {child : Option NodeIndex} → child ≡ index_from first → Turn st₀ b from 0 child
  starts h e = record { read = reads first e; linked = rw (link first e) h; part = rw (link first e) (λ x z. z); size = refl; room = rw (link first e) (omega arith); counted = rw (link first e) (omega arith); is = rw (link first e) refl }

module _ {ks : List Rectangle} {a : Query} {view : ℕ → NodeView} {wanted : Best → ℕ → Bool} {P : NodeView} {prev : List ℕ} {first : ℕ} {b : Best} {st₀ : List ℕ} {from : ℕ}
    {st : List ℕ} {found : Best} {top m : ℕ} {child : Option NodeIndex} (few : length prev ≤ no_node) (v : Turn ks a view wanted P prev first b st₀ from st found top m child) where
  pub ends : child ≡ None → Pushes ks a view wanted P (chain prev first) b st₀ from found st top m
  unfolding thin_children
  ends e =
      let z : chain prev (link_in child) ≡ [] = ended prev (link_in child) few (ap link_in e) in
      record {
        is = ap (λ (cs : List ℕ). thin_children ks a view wanted P cs (record { found = found; stack = stack_of st top })) (sym z) ∙ v.is;
        fits = omega (arith, v.room);
        counts = omega (arith, v.counted, ap length z);
      }

  module _ {c : NodeIndex} (e : child ≡ Some c) where
    u : Unrolled prev c.0
    u = unroll prev c.0 few (rw e at v.linked) (is_node (rw e at v.read))

    pub here : c.0 < length prev
    here = u.here

    shorter : length (chain prev (link_in child)) ≡ suc (length (chain prev (get_or prev c.0 0)))
    shorter = rw e (ap length u.is)

    pub room : top < from + length (chain prev first)
    room = omega (arith, shorter, v.room)

    pub is_child : Has c.0 (chain prev first)
    unfolding Has
    is_child = v.part c.0 (rw e (subst (Has c.0) (sym u.is) (inl refl)))

    pub less : {next : Option NodeIndex} → next ≡ index_from (get_or prev c.0 0) → length (chain prev (link_in next)) < length (chain prev (link_in child))
    less e' = rw (link (get_or prev c.0 0) e') (omega (arith, shorter))

    module _ {s : Examined} (es : s ≡ thin_branch ks a view wanted P c.0 found) where
      one : thin_children ks a view wanted P (chain prev (get_or prev c.0 0)) (after_branch ks a view s c.0 (stack_of st top))
          ≡ thin_children ks a view wanted P (chain prev first) (record { found = b; stack = stack_of st₀ from })
      unfolding thin_children
      one =
          ap (λ (x : Examined). thin_children ks a view wanted P (chain prev (get_or prev c.0 0)) (after_branch ks a view x c.0 (stack_of st top))) es
          ∙ ap (λ (cs : List ℕ). thin_children ks a view wanted P cs (record { found = found; stack = stack_of st top })) (sym u.is) ∙ (rw e at v.is)

      tail : (x : ℕ) → Has x (chain prev (get_or prev c.0 0)) → Has x (chain prev first)
      unfolding Has
      tail x h = v.part x (rw e (subst (Has x) (sym u.is) (inr h)))

      -- the turn's end: the child is pushed or not, and the one before it is read
      after : {st' : List ℕ} {top' : ℕ} → length st' ≡ length st → top' ≤ top + 1 → record { found = s.found; stack = stack_of st' top' } ≡ after_branch ks a view s c.0 (stack_of st top)
          → {next : Option NodeIndex} → next ≡ index_from (get_or prev c.0 0) → Turn ks a view wanted P prev first b st₀ from st' s.found top' (m + 1) next
      after z h w {next} e' =
          record {
            read = reads (get_or prev c.0 0) e';
            linked = rw (link (get_or prev c.0 0) e') u.after;
            part = rw (link (get_or prev c.0 0) e') tail;
            size = z ∙ v.size;
            room = rw (link (get_or prev c.0 0) e') (omega (arith, shorter, v.room));
            counted = rw (link (get_or prev c.0 0) e') (omega (arith, shorter, v.counted));
            is = rw (link (get_or prev c.0 0) e') (ap (thin_children ks a view wanted P (chain prev (get_or prev c.0 0))) w ∙ one);
          }

      module _ {st' : List ℕ} {top' : ℕ} where
        pub pushes : s.pushed ≡ true → top < length st → st' ≡ set st top c.0 → top' ≡ top + 1 → {next : Option NodeIndex} → next ≡ index_from (get_or prev c.0 0)
            → Turn ks a view wanted P prev first b st₀ from st' s.found top' (m + 1) next
        pushes t h e₁ e₂ =
            rw (e₁, e₂)
            (after (length-set st top c.0) (omega arith) (rw (stack_push st top c.0 h, t)))

        pub skips : s.pushed ≡ false → st' ≡ st → top' ≡ top → {next : Option NodeIndex} → next ≡ index_from (get_or prev c.0 0)
            → Turn ks a view wanted P prev first b st₀ from st' s.found top' (m + 1) next
        skips t e₁ e₂ = rw (e₁, e₂) (after refl (omega arith) (rw t))
