-- The walk as the code does it: a branch is judged before its keepouts are tested, and a child is pushed only where something in its subtree could be taken.
-- proofs/Thinning.antt has that this finds what the plain walk (specs/Walk.antt) finds.
use Rattle.std.specs.Prelude.{ℕ, ◌+◌, ◌≤◌, ◌<◌, ◌≡◌, Bool, false, not, ◌&&◌, ◌||◌, cond, List, [], ◌∷◌, length, get_or, leb, eqb, ℤ, Option, Some, None, is_some, unwrap_or}
use Rattle.geometry.specs.declared.Point.{Point}
use Rattle.geometry.specs.declared.Rectangle.{Rectangle}
use Rattle.tree.specs.Limits.{no_node}
use Rattle.tree.specs.Search.{nearest_on, blocked}
use Rattle.search.specs.declared.Best.{Best}
use Rattle.search.specs.declared.Query.{Query}
use Rattle.search.specs.declared.NodeView.{NodeView}
use Rattle.search.specs.declared.NodeColumns.{NodeColumns}
use Rattle.search.specs.declared.LinkColumns.{LinkColumns}
use Rattle.search.specs.declared.Judged.{Judged}
use Rattle.search.specs.declared.Examined.{Examined}
use Rattle.search.specs.Branch.{is_taken, judge, Near}
use Rattle.search.specs.Walk.{Walk, view_at, after_branch}
use Rattle.search.specs.Columns.{Has, InReach, stack_of, children_in}

-- ---- one branch
-- a branch within the allowance was found, no farther than d
abbrev pub is_past : Best → ℕ → Bool
is_past b d = b.within && leb b.best d

-- what is found if the branch, whose nearest point is n, is taken
abbrev pub judged_at : Query → NodeView → NodeView → Best → Point → Option Best
judged_at a P C b n = cond (is_taken a P n b) (Some (judge a P C n b)) None

abbrev pub judged : Query → NodeView → NodeView → Best → Judged
judged a P C b = let n = nearest_on P.point C.point a.point in record { near = n; found = judged_at a P C b n }

abbrev pub settled : List Rectangle → Query → NodeView → NodeView → Best → Judged → Bool → Examined
settled ks a P C b j wanted =
    cond (is_some j.found || wanted)
    (cond (blocked ks a.point P.point C.point j.near) (record { found = b; pushed = false }) (record { found = unwrap_or j.found b; pushed = wanted }))
    (record { found = b; pushed = false })

-- ---- leaves
-- p has children
abbrev pub is_wanted : List ℕ → ℕ → Bool
is_wanted last p = not (eqb (get_or last p 0) no_node)

-- ---- a node's children
module _ (ks : List Rectangle) (a : Query) (view : ℕ → NodeView) (wanted : Best → ℕ → Bool) (P : NodeView) where
  abbrev pub thin_branch : ℕ → Best → Examined
  thin_branch c b =
      let j = judged a P (view c) b in
      settled ks a P (view c) b j (wanted (unwrap_or j.found b) c)

  unfoldable pub thin_children : List ℕ → Walk → Walk
  thin_children [] e = e
  thin_children (c ∷ cs) e = thin_children cs (after_branch ks a view (thin_branch c e.found) c e.stack)

  -- what the loop over the children leaves
  pub record Pushes (cs : List ℕ) (b : Best) (st : List ℕ) (top : ℕ) (b' : Best) (st' : List ℕ) (top' looks : ℕ) : Type 0 where
    pub is : record { found = b'; stack = stack_of st' top' } ≡ thin_children cs (record { found = b; stack = stack_of st top })
    pub fits : top' ≤ top + length cs
    pub counts : looks ≡ length cs

-- ---- columns
-- what the branch from P to its child c asks
pub record Child (a : Query) (P : NodeView) (xs ys : List ℤ) (path last : List ℕ) (c : ℕ) : Type 0 where
  pub here : InReach xs ys path c
  pub in_last : c < length last
  pub near : Near a P (view_at xs ys path c)

-- P and its children cs are near, and there are not too many links
pub record NearChildren (a : Query) (P : NodeView) (xs ys : List ℤ) (path last prev : List ℕ) (cs : List ℕ) : Type 0 where
  pub few : length prev ≤ no_node
  pub each : (c : ℕ) → Has c cs → Child a P xs ys path last c

-- ---- the same of lent columns
abbrev pub ChildIn : Query → NodeView → NodeColumns → LinkColumns → ℕ → Type 0
ChildIn a P v l = Child a P v.xs.now v.ys.now v.path.now l.last.now

-- P's children are near
abbrev pub NearIn : Query → NodeView → NodeColumns → LinkColumns → Type 0
NearIn a P v l = NearChildren a P v.xs.now v.ys.now v.path.now l.last.now l.prev.now (children_in l P.node.0)
