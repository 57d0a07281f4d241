-- The walk that the code is held to, over the nodes of a tree, is the search that the paper defines: branch by branch, node by node.
use Rattle.std.proofs.Common.{ℕ, zero, suc, ◌+◌, ◌≡◌, refl, ap, sym, ◌∙◌, Bool, true, false, ◌||◌, cond, List, [], ◌∷◌, ◌++◌, reverse, length, arith, pos}
use Rattle.std.proofs.Math.ListN.{length-reverse}
use lib.Signed.{le_z}
use mathlib.Core.List.{reverse-cons}
use Rattle.geometry.specs.declared.Point.{Point}
use Rattle.geometry.specs.declared.Rectangle.{Rectangle}
use Rattle.geometry.specs.Geometry.{dist, same}
use Rattle.tree.specs.Search.{nearest_on}
use Rattle.tree.specs.Tree.{Node, node_at}
use Rattle.tree.specs.Search as T
use Rattle.search.specs.declared.Join.{Join}
use Rattle.search.specs.declared.Join.TheVariants.{Onto, Split}
use Rattle.search.specs.declared.Best.{Best}
use Rattle.search.specs.declared.Query.{Query}
use Rattle.search.specs.declared.NodeView.{NodeView}
use Rattle.search.specs.Walk.{Walk, examine_children, walk, looks, start, after_branch, node_index}
use Rattle.search.specs.Branch.{examine_branch, is_blocked, judge, take_it, join_at}
use Rattle.search.specs.Find.{examined, join_of}

-- the search over the nodes of a tree, with what it reads of a node
abbrev pub view_of : List Node → ℕ → NodeView
view_of ns i = record { node = node_index i; point = (node_at ns i).point; path = (node_at ns i).path }

unfoldable pub find_in : List Node → Query → List Rectangle → Join
find_in ns a ks = (walk ks a (view_of ns) (examined ns) (length ns) (0 ∷ []) (start a)).join

abbrev best_of : Best → T.Best
best_of b = record { join = join_of b.join; best = b.best; within = b.within }

abbrev walk_of : Walk → T.Walk
walk_of e = record { found = best_of e.found; stack = e.stack }

-- ---- the take rule
takes_is : (limit : ℕ) (w : Bool) (b : T.Branch) (v : Bool) (best : ℕ) (j : T.Join) (f : Best) → f.within ≡ v → f.best ≡ best
    → T.takes limit w b (record { join = j; best = best; within = v }) ≡ take_it w b.D b.L limit f
unfolding T.takes
takes_is limit true b true best j f e d = rw (e, d)
takes_is limit true b false best j f e d = rw e
takes_is limit false b true best j f e d = rw e
takes_is limit false b false best j f e d = rw (e, d)

-- ---- the place on the branch from p to c where n is
pub join_is : (ns : List Node) (p c : ℕ) (n : Point) → T.join_at p (node_at ns p) c (node_at ns c) n ≡ join_of (join_at n (view_of ns p) (view_of ns c))
join_is ns p c n = by (same n (node_at ns p).point) (same n (node_at ns c).point)
  where
    by : (t u : Bool) → cond t (T.onto p) (cond u (T.onto c) (T.split p c)) ≡ join_of (cond t (Onto (node_index p)) (cond u (Onto (node_index c)) (Split (node_index p) (node_index c))))
    by true u = refl
    by false true = refl
    by false false = refl

module _ (ks : List Rectangle) (ns : List Node) (a : Query) where
  abbrev shutter : Point → Point → Point → Point → Bool
  shutter = T.blocked ks

  module _ (p c : ℕ) (f : Best) where
    abbrev P : Node
    P = node_at ns p

    abbrev C : Node
    C = node_at ns c

    abbrev n : Point
    n = nearest_on P.point C.point a.point

    abbrev w : Bool
    w = le_z (pos (P.path + dist P.point n + dist n a.point)) a.allowed

    judge_is : T.judge shutter ns a.limit a.allowed a.point p c (best_of f) ≡ best_of (judge a (view_of ns p) (view_of ns c) n f)
    unfolding T.judge judge
    judge_is =
        (λ i. cond (takes_is a.limit w (T.branch P C a.point) f.within f.best (join_of f.join) f refl refl i)
        (record { join = join_is ns p c n i; best = dist n a.point; within = w || f.within }) (best_of f))
        ∙ by (take_it w (dist n a.point) (P.path + dist P.point n + dist n a.point) a.limit f)
      where
        by : (t : Bool) → cond t (record { join = join_of (join_at n (view_of ns p) (view_of ns c)); best = dist n a.point; within = w || f.within }) (best_of f)
            ≡ best_of (cond t (record { join = join_at n (view_of ns p) (view_of ns c); best = dist n a.point; within = w || f.within }) f)
        by true = refl
        by false = refl

  module _ (p c : ℕ) (e : Walk) where
    abbrev m : Point
    m = nearest_on (node_at ns p).point (node_at ns c).point a.point

    examine_is : T.examine shutter ns a.limit a.allowed a.point p c (walk_of e)
        ≡ walk_of (after_branch ks a (view_of ns) (examine_branch ks a (view_of ns p) (view_of ns c) e.found) c e.stack)
    unfolding T.examine is_blocked
    examine_is =
        (λ i. cond (T.blocked ks a.point (node_at ns p).point (node_at ns c).point m) (walk_of e)
        (record { found = judge_is p c e.found i; stack = c ∷ e.stack }))
        ∙ by (T.blocked ks a.point (node_at ns p).point (node_at ns c).point m) (judge a (view_of ns p) (view_of ns c) m e.found)
      where
        by : (t : Bool) (g : Best) → cond t (walk_of e) (record { found = best_of g; stack = c ∷ e.stack })
            ≡ walk_of (after_branch ks a (view_of ns) (cond t (record { found = e.found; pushed = false }) (record { found = g; pushed = true })) c e.stack)
        by true g = refl
        by false g = refl

  children-append : (Q : NodeView) (xs ys : List ℕ) (e : Walk) → examine_children ks a (view_of ns) Q (xs ++ ys) e ≡ examine_children ks a (view_of ns) Q ys (examine_children ks a (view_of ns) Q xs e)
  unfolding examine_children
  children-append Q [] ys e = refl
  children-append Q (x ∷ xs) ys e = children-append Q xs ys _

  branches_are : (p : ℕ) (cs : List ℕ) (e : Walk)
      → T.branches shutter ns a.limit a.allowed a.point p cs (walk_of e) ≡ walk_of (examine_children ks a (view_of ns) (view_of ns p) (reverse cs) e)
  unfolding T.branches examine_children
  branches_are p [] e = refl
  branches_are p (c ∷ cs) e =
      ap (T.examine shutter ns a.limit a.allowed a.point p c) (branches_are p cs e)
      ∙ examine_is p c (examine_children ks a (view_of ns) (view_of ns p) (reverse cs) e)
      ∙ ap walk_of (sym (ap (λ (l : List ℕ). examine_children ks a (view_of ns) (view_of ns p) l e) (reverse-cons c cs)
      ∙ children-append (view_of ns p) (reverse cs) (c ∷ []) e))

  walk_is : (k : ℕ) (stack : List ℕ) (b : Best)
      → (T.walk shutter ns a.limit a.allowed a.point k stack (best_of b)).found ≡ best_of (walk ks a (view_of ns) (examined ns) k stack b)
  unfolding T.walk walk
  walk_is zero stack b = refl
  walk_is (suc k) [] b = refl
  walk_is (suc k) (p ∷ rest) b =
      ap (λ (x : T.Walk). (T.walk shutter ns a.limit a.allowed a.point k x.stack x.found).found)
      (branches_are p (node_at ns p).children (record { found = b; stack = rest }))
      ∙ walk_is k _ _

  looks_are : (k : ℕ) (stack : List ℕ) (b : Best)
      → T.looks shutter ns a.limit a.allowed a.point k stack (best_of b) ≡ looks ks a (view_of ns) (examined ns) k stack b
  unfolding T.looks looks
  looks_are zero stack b = refl
  looks_are (suc k) [] b = refl
  looks_are (suc k) (p ∷ rest) b =
      let e = examine_children ks a (view_of ns) (view_of ns p) (examined ns p) (record { found = b; stack = rest }) in
      omega (
        arith,
        ap (λ (x : T.Walk). T.looks shutter ns a.limit a.allowed a.point k x.stack x.found) (branches_are p (node_at ns p).children (record { found = b; stack = rest })),
        looks_are k e.stack e.found,
        length-reverse (node_at ns p).children,
      )

  pub looked_is : T.looked (T.blocked ks) ns a.limit a.allowed a.point ≡ looks ks a (view_of ns) (examined ns) (length ns) (0 ∷ []) (start a)
  looked_is = looks_are (length ns) (0 ∷ []) (start a)

  pub find_is : T.find (T.blocked ks) ns a.limit a.allowed a.point ≡ join_of (find_in ns a ks)
  unfolding T.find find_in
  find_is = ap (λ (x : T.Best). x.join) (walk_is (length ns) (0 ∷ []) (start a))
