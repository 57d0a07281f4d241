-- What the loop tells is right: the least rank, where the next has a greater D, is that of a branch alone the nearest in the columns. The idea: the ranks with the
-- column of distances are those with the distances themselves.
use Rattle.std.proofs.Common.{ℕ, ◌+◌, ◌-◌, ◌*◌, ◌<◌, ◌≡◌, List, arith, get_or, leb, ℤ, pos, Option, Some, None}
use lib.Signed.{le_z}
use Rattle.tree.specs.declared.NodeIndex.{NodeIndex}
use Rattle.search.specs.declared.Query.{Query}
use Rattle.nearest.specs.declared.Least.{Least}
use Rattle.nearest.specs.Ranks.{branch_indices, excess, branch_rank, entry}
use Rattle.nearest.specs.Columns.{Distances, SummedColumns}
use Rattle.nearest.specs.Sole.{TwoLeast, Told, Right, rank_in}
use Rattle.nearest.proofs.Ranking.{child_of_lem}
use Rattle.nearest.proofs.Leasts.{alone, sole-same}

module _ {n : ℕ} (a : Query) {xs ys : List ℤ} {path parent e : List ℕ} (v : SummedColumns n a.point xs ys path parent) (d : Distances n a.point xs ys e)
    (allowed : ℕ) (reads : (l : ℕ) → leb l allowed ≡ le_z (pos l) a.allowed) where
  -- with the column, or with the distances themselves
  ranks_same : (c : ℕ) → 0 < c → c < n → branch_rank (entry e) (entry path) (entry parent) allowed c ≡ rank_in allowed a xs ys path parent c
  unfolding branch_rank
  ranks_same c p h =
      let E = d.each (get_or parent c 0) (v.up c p h) in
      λ i. (entry path (get_or parent c 0) + E i + d.each c h i - entry path c) * branch_indices + c + excess (entry path (get_or parent c 0) + E i) allowed

  pub right : {l : Least} → TwoLeast (branch_rank (entry e) (entry path) (entry parent) allowed) n l → (r : Option NodeIndex) → Told l r → Right n a xs ys path parent r
  right w (Some c) t =
      record {
        allowed = allowed;
        reads = reads;
        sole =
            sole-same _ ranks_same
            (alone _ (λ i p h. child_of_lem (entry e) (entry path) (entry parent) allowed i (omega (arith, v.points.few))) w t.0 t.1 t.2);
      }
  right w None t = tt
