-- One store of a point in two columns: the point stands there, all others stay, and so do the lengths.
use Rattle.std.proofs.Common.{ℕ, ◌<◌, ◌≡◌, ap, ◌∙◌, ◌≢◌, List, length, get_or, set, length-set, get_or-set_same, get_or-set_other, ℤ, pos}
use Rattle.geometry.specs.declared.Point.{Point}
use Rattle.tree.specs.Memory.{point_at}

module _ (px py : List ℤ) (j : ℕ) (p : Point) (px' py' : List ℤ) (ex : px' ≡ set px j p.xcoord) (ey : py' ≡ set py j p.ycoord) where
  pub put_other : (k : ℕ) → k ≢ j → point_at px' py' k ≡ point_at px py k
  put_other k h =
      λ i. record {
        xcoord = (ap (λ (l : List ℤ). get_or l k (pos 0)) ex ∙ get_or-set_other px j k p.xcoord (pos 0) h) i;
        ycoord = (ap (λ (l : List ℤ). get_or l k (pos 0)) ey ∙ get_or-set_other py j k p.ycoord (pos 0) h) i;
      }

  pub put_same : j < length px → j < length py → point_at px' py' j ≡ p
  put_same f g =
      λ i. record {
        xcoord = (ap (λ (l : List ℤ). get_or l j (pos 0)) ex ∙ get_or-set_same px j p.xcoord (pos 0) f) i;
        ycoord = (ap (λ (l : List ℤ). get_or l j (pos 0)) ey ∙ get_or-set_same py j p.ycoord (pos 0) g) i;
      }

  pub put_length_x : length px' ≡ length px
  put_length_x = ap length ex ∙ length-set px j p.xcoord

  pub put_length_y : length py' ≡ length py
  put_length_y = ap length ey ∙ length-set py j p.ycoord
