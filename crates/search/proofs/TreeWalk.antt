-- Columns that keep a tree: the walk over the columns is safe, and finds what the search finds in the tree. The idea: a walk reads nothing past the count of nodes.
use Rattle.std.proofs.Common.{ℕ, zero, suc, ◌≤◌, ◌<◌, ◌≡◌, refl, ap, sym, ◌∙◌, subst, List, [], ◌∷◌, inl, inr, ⊎_elim, arith, length, get_or, ℤ}
use Rattle.geometry.specs.declared.Point.{Point}
use Rattle.geometry.specs.declared.Rectangle.{Rectangle}
use Rattle.geometry.specs.Laws.{Within}
use Rattle.tree.specs.Limits.{longest_path, reach, most_nodes}
use Rattle.tree.specs.Search as T
use Rattle.tree.specs.Tree.{Node}
use Rattle.search.specs.declared.Found.{Found}
use Rattle.search.specs.declared.Best.{Best}
use Rattle.search.specs.declared.Query.{Query}
use Rattle.search.specs.declared.NodeView.{NodeView}
use Rattle.search.specs.Walk.{Walk, examine_children, view_at, walk, looks, start, after_branch, node_index}
use Rattle.tree.specs.Memory.{keepouts_of}
use Rattle.search.specs.Branch.{examine_branch}
use Rattle.search.specs.Columns.{Chain, Has, Distinct, children_of, TreeColumns, SafeOn, found_on, looks_on, FoundOn}
use Rattle.search.specs.Find.{Forest, examined, join_of, Kept, Ready, Joins, Walkable}
use Rattle.search.proofs.Distinct.{pigeon}
use Rattle.search.proofs.Chains.{chain_is}
use Rattle.search.proofs.Defined.{view_of, find_in, find_is, looked_is}
use Rattle.search.proofs.Forest.{safe_from_source, children-has}

-- ---- a walk reads nothing past n
module _ (ks : List Rectangle) (a : Query) (view view' : ℕ → NodeView) (n : ℕ) (same : (i : ℕ) → i < n → view i ≡ view' i) where
  children-same : (P : NodeView) (cs : List ℕ) (e : Walk) → ((c : ℕ) → Has c cs → c < n) → examine_children ks a view P cs e ≡ examine_children ks a view' P cs e
  unfolding examine_children Has
  children-same P [] e f = refl
  children-same P (c ∷ cs) e f =
      children-same P cs _ (λ x h. f x (inr h))
      ∙ ap (λ (C : NodeView). examine_children ks a view' P cs (after_branch ks a view (examine_branch ks a P C e.found) c e.stack)) (same c (f c (inl refl)))

  module _ (children children' : ℕ → List ℕ) (alike : (p : ℕ) → p < n → children p ≡ children' p) (below : (p c : ℕ) → p < n → Has c (children p) → c < n) where
    walk_same : (k : ℕ) (stack : List ℕ) (b : Best) → ((x : ℕ) → Has x stack → x < n) → walk ks a view children k stack b ≡ walk ks a view' children' k stack b
    unfolding walk Has
    walk_same zero stack b f = refl
    walk_same (suc k) [] b f = refl
    walk_same (suc k) (p ∷ rest) b f =
        let h : p < n = f p (inl refl) in
        let e = examine_children ks a view (view p) (children p) (record { found = b; stack = rest }) in
        let e_same : e ≡ examine_children ks a view' (view' p) (children' p) (record { found = b; stack = rest })
        = children-same (view p) (children p) _ (λ c z. below p c h z)
        ∙ (λ i. examine_children ks a view' (same p h i) (alike p h i) (record { found = b; stack = rest })) in
        walk_same k e.stack e.found (λ x z. children-has ks a view (view p) x (children p) (record { found = b; stack = rest }) (λ w. below p x h w) (λ w. f x (inr w)) z)
        ∙ ap (λ (y : Walk). walk ks a view' children' k y.stack y.found) e_same

    looks-same : (k : ℕ) (stack : List ℕ) (b : Best) → ((x : ℕ) → Has x stack → x < n) → looks ks a view children k stack b ≡ looks ks a view' children' k stack b
    unfolding looks Has
    looks-same zero stack b f = refl
    looks-same (suc k) [] b f = refl
    looks-same (suc k) (p ∷ rest) b f =
        let h : p < n = f p (inl refl) in
        let e = examine_children ks a view (view p) (children p) (record { found = b; stack = rest }) in
        let e_same : e ≡ examine_children ks a view' (view' p) (children' p) (record { found = b; stack = rest })
        = children-same (view p) (children p) _ (λ c z. below p c h z)
        ∙ (λ i. examine_children ks a view' (same p h i) (alike p h i) (record { found = b; stack = rest })) in
        omega (
          arith,
          looks-same k e.stack e.found (λ x z. children-has ks a view (view p) x (children p) (record { found = b; stack = rest }) (λ w. below p x h w) (λ w. f x (inr w)) z),
          ap (λ (y : Walk). looks ks a view' children' k y.stack y.found) e_same,
          ap length (alike p h),
        )

forest-same : (n : ℕ) (children children' : ℕ → List ℕ) → ((p : ℕ) → p < n → children p ≡ children' p) → Forest n children → Forest n children'
forest-same n children children' alike v =
    record {
      some = v.some;
      below = λ p c h z. v.below p c h (subst (Has c) (sym (alike p h)) z);
      no_root = λ p c h z. v.no_root p c h (subst (Has c) (sym (alike p h)) z);
      once = λ p h. subst Distinct (alike p h) (v.once p h);
      one = λ p q c h k z w. v.one p q c h k (subst (Has c) (sym (alike p h)) z) (subst (Has c) (sym (alike q k)) w);
    }

pub views_are : {ns : List Node} {xs ys : List ℤ} {path last prev : List ℕ} → Kept ns xs ys path last prev → (i : ℕ) → i < length ns → view_at xs ys path i ≡ view_of ns i
views_are k i h = λ j. record { node = node_index i; point = k.points i h j; path = k.paths i h j }

module _ (ns : List Node) (xs ys : List ℤ) (path last prev : List ℕ) (k : Kept ns xs ys path last prev) (t : Walkable ns) where
  short : (p : ℕ) → p < length ns → length (examined ns p) ≤ length prev
  short p h = omega (arith, k.in_prev, pigeon (length ns) (examined ns p) (t.forest.once p h) (λ c z. t.forest.below p c h z))

  pub chains_are : (p : ℕ) → p < length ns → children_of last prev p ≡ examined ns p
  chains_are p h = chain_is (length prev) prev (get_or last p 0) (examined ns p) k.few (k.chains p h) (short p h)

  forest : Forest (length ns) (children_of last prev)
  forest = forest-same (length ns) (examined ns) (children_of last prev) (λ p h. sym (chains_are p h)) t.forest

  module _ (a : Query) (q : Within reach a.point) where
    pub sound : TreeColumns (length ns) a xs ys path last prev
    sound =
        record {
          in_xs = k.in_xs;
          in_ys = k.in_ys;
          in_path = k.in_path;
          in_last = k.in_last;
          in_prev = k.in_prev;
          few = k.few;
          within = q;
          near = λ i h. subst (λ (p : Point). Within reach p) (sym (k.points i h)) (t.near i h);
          long = λ i h. subst (λ (m : ℕ). m ≤ longest_path) (sym (k.paths i h)) (t.long i h);
          links = λ p h. record { is = subst (λ (cs : List ℕ). Chain prev (get_or last p 0) cs) (sym (chains_are p h)) (k.chains p h) };
          below = λ p c h z. forest.below p c h z;
        }

  pub safe_on : (room : ℕ) (a : Query) (ks : List ℤ) → length ns ≤ room → SafeOn room (length ns) a xs ys path last prev ks
  safe_on room a ks h = safe_from_source (keepouts_of ks) a (view_at xs ys path) (children_of last prev) (length ns) (length ns) room forest (omega arith) h (start a)

  pub found_is : (a : Query) (ks : List ℤ) → found_on (length ns) a xs ys path last prev ks ≡ find_in ns a (keepouts_of ks)
  unfolding find_in Has
  found_is a ks =
      ap (λ (b : Best). b.join)
      (walk_same (keepouts_of ks) a (view_at xs ys path) (view_of ns) (length ns) (views_are k)
      (children_of last prev) (examined ns) chains_are (λ p c h z. forest.below p c h z) (length ns) (0 ∷ []) (start a)
      (λ x h. ⊎_elim (λ (z : 0 ≡ x). subst (λ (m : ℕ). m < length ns) z t.forest.some) (λ (z : ⊥). absurd z) h))

  pub looks_on_lem : (a : Query) (ks : List ℤ) → looks_on (length ns) a xs ys path last prev ks ≡ T.looked (T.blocked (keepouts_of ks)) ns a.limit a.allowed a.point
  unfolding Has
  looks_on_lem a ks =
      looks-same (keepouts_of ks) a (view_at xs ys path) (view_of ns) (length ns) (views_are k)
      (children_of last prev) (examined ns) chains_are (λ p c h z. forest.below p c h z) (length ns) (0 ∷ []) (start a)
      (λ x h. ⊎_elim (λ (z : 0 ≡ x). subst (λ (m : ℕ). m < length ns) z t.forest.some) (λ (z : ⊥). absurd z) h)
      ∙ sym (looked_is (keepouts_of ks) ns a)

module _ {n : ℕ} {a : Query} {xs ys : List ℤ} {path last prev : List ℕ} (v : Ready n a xs ys path last prev) where
  pub ready_sound : TreeColumns n a xs ys path last prev
  ready_sound = subst (λ (m : ℕ). TreeColumns m a xs ys path last prev) v.size (sound v.nodes xs ys path last prev v.kept v.tree a v.within)

  pub ready_safe : (ks : List ℤ) → SafeOn most_nodes n a xs ys path last prev ks
  ready_safe ks =
      subst (λ (m : ℕ). SafeOn most_nodes m a xs ys path last prev ks) v.size
      (safe_on v.nodes xs ys path last prev v.kept v.tree most_nodes a ks (omega (arith, v.size, v.small)))

module _ (n : ℕ) (a : Query) (xs ys : List ℤ) (path last prev : List ℕ) (ks : List ℤ) where
  pub joins : (r : Found) → FoundOn n a xs ys path last prev ks r → Joins n a xs ys path last prev ks r
  joins r e ns s t k =
      record {
        join = ap join_of (e.join ∙ ap (λ (m : ℕ). found_on m a xs ys path last prev ks) (sym s) ∙ found_is ns xs ys path last prev k t a ks) ∙ sym (find_is (keepouts_of ks) ns a);
        looks = e.looks ∙ ap (λ (m : ℕ). looks_on m a xs ys path last prev ks) (sym s) ∙ looks_on_lem ns xs ys path last prev k t a ks;
      }
