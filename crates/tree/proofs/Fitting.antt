-- The search finds a place in any tree whose links agree, whatever path lengths its nodes carry: so inserting keeps links and names after hand edits too. Path lengths
-- that are sums stay so, whatever the limit.
use Rattle.std.proofs.Common.{◌≡◌, Bool, true, false, ◌||◌, cond, List, [], ◌∷◌, ℕ, zero, suc, length, ℤ, pos}
use lib.Signed.{le_z}
use Rattle.geometry.specs.declared.Point.{Point}
use Rattle.geometry.specs.declared.Rectangle.{Rectangle}
use Rattle.geometry.specs.Geometry.{same, box, nearest}
use Rattle.tree.specs.Tree.{Node, Tree, at, node_at}
use Rattle.tree.specs.Search.{onto, split, Best, Walk, branch, takes, join_at, judge, examine, branches, walk, fresh, find, blocked}
use Rattle.tree.specs.Route.{insert, inserts}
use Rattle.tree.specs.Shape.{Linked, PathSums}
use Rattle.tree.specs.WellFormed.{Fits}
use Rattle.tree.proofs.Linking.{child_in, parent_in_lem}
use Rattle.tree.proofs.Searching.{Children, own, head_child, tail_child}
use Rattle.tree.proofs.Routing.{linked-joined, sums-joined}

module _ (ns : List Node) (g : Linked ns) (shut : Point → Point → Point → Point → Bool) (limit : ℕ) (allowed : ℤ) (q : Point) where
  fits-at : (p c : ℕ) (n : Point) → (node_at ns c).parent ≡ at p → Fits ns (join_at p (node_at ns p) c (node_at ns c) n)
  fits-at p c n link = by (same n (node_at ns p).point) (same n (node_at ns c).point)
    where
      by : (t u : Bool) → Fits ns (cond t (onto p) (cond u (onto c) (split p c)))
      by true u = parent_in_lem g c p link
      by false true = child_in g c p link
      by false false = link

  fits-judge : (p c : ℕ) (f : Best) → (node_at ns c).parent ≡ at p → Fits ns f.join → Fits ns (judge shut ns limit allowed q p c f).join
  unfolding judge
  fits-judge p c f link k =
      by (takes limit (le_z (pos (branch (node_at ns p) (node_at ns c) q).L) allowed) (branch (node_at ns p) (node_at ns c) q) f)
    where
      by : (t : Bool) → Fits ns (cond t (record {
        join = join_at p (node_at ns p) c (node_at ns c) (branch (node_at ns p) (node_at ns c) q).near;
        best = (branch (node_at ns p) (node_at ns c) q).D;
        within = le_z (pos (branch (node_at ns p) (node_at ns c) q).L) allowed || f.within;
      }) f).join
      by true = fits-at p c _ link
      by false = k

  fits-branches : (p : ℕ) (cs : List ℕ) (e : Walk) → Children ns p cs → Fits ns e.found.join → Fits ns (branches shut ns limit allowed q p cs e).found.join
  unfolding branches examine
  fits-branches p [] e h k = k
  fits-branches p (c ∷ cs) e h k =
      by (shut q (node_at ns p).point (node_at ns c).point (nearest (box (node_at ns p).point (node_at ns c).point) q)) _ (fits-branches p cs e (tail_child ns g p c cs h) k)
    where
      by : (t : Bool) (w : Walk) → Fits ns w.found.join
          → Fits ns (cond t w (record { found = judge shut ns limit allowed q p c w.found; stack = c ∷ w.stack })).found.join
      by true w ih = ih
      by false w ih = fits-judge p c w.found (head_child ns g p c cs h) ih

  fits-walk : (n : ℕ) (st : List ℕ) (f : Best) → Fits ns f.join → Fits ns (walk shut ns limit allowed q n st f).found.join
  unfolding walk
  fits-walk zero st f k = k
  fits-walk (suc n) [] f k = k
  fits-walk (suc n) (p ∷ st) f k = fits-walk n _ _ (fits-branches p (node_at ns p).children (record { found = f; stack = st }) (own ns g p) k)

  pub find-fits : Fits ns (find shut ns limit allowed q)
  unfolding find
  find-fits = fits-walk (length ns) (0 ∷ []) (fresh limit) g.some

-- terminals that are inserted leave path lengths sums
pub sums-inserts : (ks : List Rectangle) (qs : List Point) (t : Tree) → Linked t.nodes → PathSums t.nodes → PathSums (inserts (insert ks) qs t).nodes
unfolding inserts insert
sums-inserts ks [] t g m = m
sums-inserts ks (q ∷ qs) t g m =
    let v = find-fits t.nodes g (blocked ks) t.limit t.allowed q in
    sums-inserts ks qs (insert ks t q) (linked-joined q t.nodes _ _ q g _ v) (sums-joined q t.nodes _ _ q g _ v m)
