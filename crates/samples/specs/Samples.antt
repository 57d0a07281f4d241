-- The proved samples of document 01, "Sample quays": one list, of what the definitions give beside what the paper states.
use Rattle.std.specs.Prelude.{◌≡◌, List, [], ◌∷◌, map, ℕ, ℤ, pos, neg_ℤ}
use Rattle.std.specs.Float.{binary64}
use Rattle.std.specs.Float.Ieee.{of_bits}
use Rattle.geometry.specs.declared.Point.{Point}
use Rattle.geometry.specs.declared.Rectangle.{Rectangle}
use Rattle.geometry.specs.Geometry.{dist, nearest, dist_to}
use Rattle.allowance.specs.Allowance.{allowed_of}
use Rattle.tree.specs.Tree.{Node, Tree, Name, source, steiner, terminal, Parent, none, at, total}
use Rattle.job.specs.declared.Mode.TheVariants.{Constraints}
use Rattle.job.specs.Job.{Job}
use Rattle.route.specs.Routing.{tree_for}

-- a thing that a sample states
pub data Figure : Type 0 where
  number : ℤ → Figure
  point : Point → Figure
  -- a node: its name, parent, point, children and path length
  node : Name → Parent → Point → List ℕ → ℕ → Figure

-- the sample M `label`
pub record Sample : Type 0 where
  pub label : ℕ
  pub defined : List Figure
  pub stated : List Figure

abbrev pt : ℤ → ℤ → Point
pt x y = record { xcoord = x; ycoord = y }

abbrev minus : ℕ → ℤ
minus n = neg_ℤ (pos n)

-- allowed at W, by the multiplier's 64 bits
abbrev allowed_at : ℕ → ℕ → Figure
allowed_at w bits = number (allowed_of w (of_bits binary64 bits))

abbrev half : ℕ
half = 0x3fe0_0000_0000_0000

abbrev minus_half : ℕ
minus_half = 0xbfe0_0000_0000_0000

-- 0.49999999999999994, the largest below a half
abbrev below_half : ℕ
below_half = 0x3fdf_ffff_ffff_ffff

abbrev infinity : ℕ
infinity = 0x7ff0_0000_0000_0000

abbrev box2 : Rectangle
box2 = record { xcoord = record { lb = pos 0; ub = pos 4 }; ycoord = record { lb = pos 0; ub = pos 6 } }

-- ---- trees: "Mode 2, source (0, 0), multiplier 1, no keepouts unless said."
abbrev p : ℕ → ℕ → Point
p x y = pt (pos x) (pos y)

abbrev one : ℕ
one = 0x3ff0_0000_0000_0000

abbrev keepout : ℕ → ℕ → ℕ → ℕ → Rectangle
keepout lx ux ly uy = record { xcoord = record { lb = pos lx; ub = pos ux }; ycoord = record { lb = pos ly; ub = pos uy } }

abbrev job_with : ℕ → List Point → List Rectangle → Job
job_with bits ts ks = record { mode = Constraints (of_bits binary64 bits); source = p 0 0; terminals = ts; keepouts = ks }

unfoldable pub node_figures : List Node → List Figure
node_figures [] = []
node_figures (n ∷ ns) = node n.name n.parent n.point n.children n.path ∷ node_figures ns

-- allowed, W, the total, and the nodes in index order
abbrev figures : Tree → List Figure
figures t = number t.allowed ∷ number (pos t.farthest) ∷ number (pos (total t.nodes)) ∷ node_figures t.nodes

abbrev terminals6 : List Point
terminals6 = p 10 2 ∷ p 4 6 ∷ []

-- the source with one child, a Steiner node at (4, 2), whose children are terminal_1 at (4, 6) and terminal_2 at (10, 2)
abbrev tree6 : List Figure
tree6 =
    node source none (p 0 0) (3 ∷ []) 0
    ∷ node (terminal 1) (at 3) (p 4 6) [] 10
    ∷ node (terminal 2) (at 3) (p 10 2) [] 12
    ∷ node (steiner 1) (at 0) (p 4 2) (1 ∷ 2 ∷ []) 6
    ∷ []

unfoldable pub samples : List Sample
samples =
    -- "d of (−1000000, −1000000) and (1000000, 1000000) is 4000000"
    record { label = 1; defined = number (pos (dist (pt (minus 1000000) (minus 1000000)) (pt (pos 1000000) (pos 1000000)))) ∷ []; stated = number (pos 4000000) ∷ [] }
    -- "box x 0..4, y 0..6, point (10, 2): nearest (4, 2), distance 6"
    ∷ record { label = 2; defined = point (nearest box2 (pt (pos 10) (pos 2))) ∷ number (pos (dist_to box2 (pt (pos 10) (pos 2)))) ∷ []; stated = point (pt (pos 4) (pos 2)) ∷ number (pos 6) ∷ [] }
    -- "W 5: multiplier 0.5 gives 3, −0.5 gives −3"
    ∷ record { label = 3; defined = allowed_at 5 half ∷ allowed_at 5 minus_half ∷ []; stated = number (pos 3) ∷ number (minus 3) ∷ [] }
    -- "W 1, multiplier 0.49999999999999994 gives 0"
    ∷ record { label = 4; defined = allowed_at 1 below_half ∷ []; stated = number (pos 0) ∷ [] }
    -- "infinity gives 2147483647 at W 12 and 0 at W 0"
    ∷ record { label = 5; defined = allowed_at 12 infinity ∷ allowed_at 0 infinity ∷ []; stated = number (pos 2147483647) ∷ number (pos 0) ∷ [] }
    -- "terminals (10, 2), (4, 6)": the tree that its text shows, "allowed 12 farthest 12 total 16"
    ∷ record { label = 6; defined = figures (tree_for (job_with one terminals6 [])); stated = number (pos 12) ∷ number (pos 12) ∷ number (pos 16) ∷ tree6 }
    -- "with keepout x 2..3, y 0..2: both join the source, total 22"
    ∷ record {
      label = 7;
      defined = figures (tree_for (job_with one terminals6 (keepout 2 3 0 2 ∷ [])));
      stated = number (pos 12) ∷ number (pos 12) ∷ number (pos 22)
          ∷ node source none (p 0 0) (1 ∷ 2 ∷ []) 0 ∷ node (terminal 1) (at 0) (p 4 6) [] 10 ∷ node (terminal 2) (at 0) (p 10 2) [] 12 ∷ [];
    }
    -- "with y 0..1: as M6"
    ∷ record { label = 8; defined = figures (tree_for (job_with one terminals6 (keepout 2 3 0 1 ∷ []))); stated = number (pos 12) ∷ number (pos 12) ∷ number (pos 16) ∷ tree6 }
    -- "M6 at multiplier 0.5: allowed 6, same tree"
    ∷ record { label = 9; defined = figures (tree_for (job_with half terminals6 [])); stated = number (pos 6) ∷ number (pos 12) ∷ number (pos 16) ∷ tree6 }
    -- "(0, 5), (5, 0), (5, 5): the last joins terminal_2, total 15"
    ∷ record {
      label = 10;
      defined = figures (tree_for (job_with one (p 0 5 ∷ p 5 0 ∷ p 5 5 ∷ []) []));
      stated = number (pos 10) ∷ number (pos 10) ∷ number (pos 15)
          ∷ node source none (p 0 0) (1 ∷ 2 ∷ []) 0 ∷ node (terminal 1) (at 0) (p 0 5) [] 5 ∷ node (terminal 2) (at 0) (p 5 0) (3 ∷ []) 5
          ∷ node (terminal 3) (at 2) (p 5 5) [] 10 ∷ [];
    }
    -- "no terminals: one node, W 0"
    ∷ record { label = 11; defined = figures (tree_for (job_with one [] [])); stated = number (pos 0) ∷ number (pos 0) ∷ number (pos 0) ∷ node source none (p 0 0) [] 0 ∷ [] }
    -- "(3, 0) twice: the second joins the first, total 3"
    ∷ record {
      label = 12;
      defined = figures (tree_for (job_with one (p 3 0 ∷ p 3 0 ∷ []) []));
      stated = number (pos 3) ∷ number (pos 3) ∷ number (pos 3)
          ∷ node source none (p 0 0) (1 ∷ []) 0 ∷ node (terminal 1) (at 0) (p 3 0) (2 ∷ []) 3 ∷ node (terminal 2) (at 1) (p 3 0) [] 3 ∷ [];
    }
    ∷ []

-- the list agrees with the definitions, as a whole
abbrev pub Agree : List Sample → Type 0
Agree l = map (λ (s : Sample). s.defined) l ≡ map (λ (s : Sample). s.stated) l
