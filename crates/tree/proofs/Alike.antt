-- Jobs alike but for order get the same tree: sorting forgets the order of terminals (Order.antt), and keepouts are read only through `blocked`, which asks whether any stops.
use Rattle.std.proofs.Common.{◌≡◌, refl, sym, ap, ap₂, ◌∙◌, ⊎_elim, Bool, true, ◌+◌, List, [], ◌∷◌, pos}
use mathlib.Core.List.{Memᴰ}
use Rattle.geometry.specs.Signed.{no_way}
use Rattle.tree.specs.Tree.{Tree}
use Rattle.tree.specs.Limits.{no_limit}
use Rattle.geometry.specs.declared.Point.{Point}
use Rattle.geometry.specs.declared.Rectangle.{Rectangle}
use Rattle.tree.specs.Search.{any_of, stops, blocked, find, looked}
use Rattle.tree.specs.Route.{SameTerminals, SameKeepouts, join, insert, insert_simple, inserts, rooted, route, looks_for, route_looks, Mode, simple, steiners, constraints}
use Rattle.tree.proofs.Deciding.{or_split, or_left, or_right, both_ways}
use Rattle.tree.proofs.Order.{sort-same, farthest-same}

module _ {A : Type 0} (f : A → Bool) where
  any_in : {k : A} {ks : List A} → Memᴰ k ks → f k ≡ true → any_of f ks ≡ true
  unfolding any_of
  any_in (Memᴰ.head {x = x} e) h = or_left (f x) _ (ap f (sym e) ∙ h)
  any_in (Memᴰ.tail {x = x} {xs = xs} m) h = or_right (f x) (any_of f xs) (any_in m h)

  any_out : (ks : List A) → any_of f ks ≡ true → (k : A) × Memᴰ k ks × (f k ≡ true)
  unfolding any_of
  any_out [] e = no_way e
  any_out (k ∷ ks) e =
      ⊎_elim (λ h. (k, Memᴰ.head refl, h)) (λ h. let r = any_out ks h in (r.0, Memᴰ.tail r.1, r.2)) (or_split (f k) (any_of f ks) e)

module _ (ks ls : List Rectangle) (h : SameKeepouts ks ls) where
  any_same : (f : Rectangle → Bool) → any_of f ks ≡ any_of f ls
  any_same f =
      both_ways _ _
      (λ e. let r = any_out f ks e in any_in f (h.there r.1) r.2)
      (λ e. let r = any_out f ls e in any_in f (h.back r.1) r.2)

  blocked-same : blocked ks ≡ blocked ls
  unfolding blocked
  blocked-same = λ i q P C n. any_same (stops q P C n) i

  insert-same : insert ks ≡ insert ls
  unfolding insert
  insert-same = λ i t q. join t q (find (blocked-same i) t.nodes t.limit t.allowed q)

-- any two jobs alike but for order get the same tree in every part
pub route_alike : (m : Mode) (s : Point) (ts us : List Point) (ks ls : List Rectangle) → SameTerminals ts us → SameKeepouts ks ls → route m s ts ks ≡ route m s us ls
route_alike simple s ts us ks ls h k =
    λ i. inserts insert_simple (sort-same s ts us h i) (rooted s (pos no_limit) (farthest-same s ts us h i) no_limit)
route_alike steiners s ts us ks ls h k =
    λ i. inserts (insert-same ks ls k i) (sort-same s ts us h i) (rooted s (pos no_limit) (farthest-same s ts us h i) no_limit)
route_alike (constraints al) s ts us ks ls h k =
    λ i. let w = farthest-same s ts us h i in inserts (insert-same ks ls k i) (sort-same s ts us h i) (rooted s (al w) w w)

-- and as many branches are examined
looks-same : (ks ls : List Rectangle) → SameKeepouts ks ls → (qs : List Point) (t : Tree) → looks_for ks qs t ≡ looks_for ls qs t
unfolding looks_for
looks-same ks ls h [] t = refl
looks-same ks ls h (q ∷ qs) t =
    ap₂ ◌+◌ (λ i. looked (blocked-same ks ls h i) t.nodes t.limit t.allowed q)
    ((λ i. looks_for ks qs (insert-same ks ls h i t q)) ∙ looks-same ks ls h qs (insert ls t q))

pub looks_alike : (m : Mode) (s : Point) (ts us : List Point) (ks ls : List Rectangle) → SameTerminals ts us → SameKeepouts ks ls → route_looks m s ts ks ≡ route_looks m s us ls
looks_alike simple s ts us ks ls h k = refl
looks_alike steiners s ts us ks ls h k =
    looks-same ks ls k _ _ ∙ (λ i. looks_for ls (sort-same s ts us h i) (rooted s (pos no_limit) (farthest-same s ts us h i) no_limit))
looks_alike (constraints al) s ts us ks ls h k =
    looks-same ks ls k _ _ ∙ (λ i. let w = farthest-same s ts us h i in looks_for ls (sort-same s ts us h i) (rooted s (al w) w w))
