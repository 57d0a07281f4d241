-- Demand 3, in one piece: what the price list rests on. It is a statement about every list of bytes b that is handed in as a job, and about the answer
-- that routing gives it. `proofs/Owed.antt` shows `demand3 : Demand3`; the contract of `global_router::route` hands `Owed` to its caller.
use Rattle.std.specs.Prelude.{◌≡◌, List, ℕ, ◌≤◌, ◌<◌, length, Float, ℤ, pos, ◌≤ℤ◌}
use Rattle.geometry.specs.Geometry.{dist}
use Rattle.allowance.specs.Allowance.{allowed_of}
use Rattle.tree.specs.Tree.{Tree, terminal, node_at, terminals, numbered, climb, climbed, total}
use Rattle.tree.specs.Route.{sort, farthest, directs, insert, inserts, rooted, SameTerminals}
use Rattle.tree.specs.Shape.{name_of}
use Rattle.job.specs.declared.Mode.TheVariants.{Constraints}
use Rattle.job.specs.Job.{Job, accepted, read_job}
use Rattle.job.specs.Alike.{AlikeButOrder}
use Rattle.route.specs.Routing.{Routing, routed, route_of}

-- W, "the largest d(source, terminal)", and the allowance that the multiplier m makes of it
abbrev pub farthest_of : Job → ℕ
farthest_of j = farthest j.source j.terminals

abbrev pub allowance_of : Job → Float → ℤ
allowance_of j m = allowed_of (farthest_of j) m

-- the tree t of an accepted job j with constraints, and their multiplier m
pub record Constrained (j : Job) (m : Float) (t : Tree) : Type 0 where
  -- "the tree is in every part the one that the sorting, search and joining of document 01, as later amended, build for it": the sorted terminals are
  -- inserted one by one into the tree of the source alone, with allowed from W and m, and W for the tree limit
  pub exact :
      t ≡ inserts (insert j.keepouts) (sort j.source j.terminals)
      (rooted j.source (allowance_of j m) (farthest_of j) (farthest_of j))
  -- "Its terminals are exactly the job's, each as often as the job has it." By number from 1, they are the job's as sorted
  pub by_number : terminals t.nodes ≡ numbered 1 (sort j.source j.terminals)
  pub as_often : SameTerminals (sort j.source j.terminals) j.terminals
  -- "From every node the parents lead to the source": as many steps as there are nodes end at index 0, where the source stays
  pub to_source : (i : ℕ) → i < length t.nodes → climb t.nodes (length t.nodes) i ≡ 0
  -- "and every path length equals the Manhattan sum along those parents"
  pub path-sums : (i : ℕ) → i < length t.nodes → (node_at t.nodes i).path ≡ climbed t.nodes (length t.nodes) i
  -- "allowed, W, tree limit": the figures that the tree carries
  pub carries : (t.allowed ≡ allowance_of j m) × (t.farthest ≡ farthest_of j) × (t.limit ≡ farthest_of j)
  -- "Every terminal no farther from the source than the allowance has a path no longer than the allowance."
  pub within :
      (i k : ℕ) → i < length t.nodes → name_of t.nodes i ≡ terminal k
      → pos (dist j.source (node_at t.nodes i).point) ≤ℤ allowance_of j m → pos (node_at t.nodes i).path ≤ℤ allowance_of j m
  -- "Every other terminal has a path no longer than the farthest terminal's distance."
  pub beyond :
      (i k : ℕ) → i < length t.nodes → name_of t.nodes i ≡ terminal k
      → (pos (dist j.source (node_at t.nodes i).point) ≤ℤ allowance_of j m → ⊥) → (node_at t.nodes i).path ≤ farthest_of j
  -- "The total is at most the sum of all terminals' direct distances."
  pub total-low : total t.nodes ≤ directs j.source j.terminals

-- what is owed of the answer r to the job b
pub record Owed (b : List ℕ) (r : Routing) : Type 0 where
  -- "Any two jobs alike in all but the order of their terminals, and the order and repetition of their keepouts within the limit, get the same answers:
  -- the same refusal, or the same tree in every part."
  pub same_answer : (a : List ℕ) → AlikeButOrder a b → route_of a ≡ r
  -- "For every accepted job with constraints, .."
  pub constrained : (j : Job) (m : Float) → read_job b ≡ accepted j → j.mode ≡ Constraints m → (t : Tree) × (r ≡ routed t) × Constrained j m t

abbrev pub Demand3 : Type 0
Demand3 = (b : List ℕ) → Owed b (route_of b)
