-- A store in one column of a buffer: it is a `set` of that column, and the other columns stay as they are. No length is asked of the buffer: a column ends where the buffer does.
use Rattle.std.proofs.Common.{ℕ, ◌+◌, ◌*◌, ◌-◌, ◌≤◌, ◌<◌, ◌≡◌, refl, ap, sym, ◌∙◌, Bool, true, false, List, ◌++◌, append_assoc, arith, length, get_or, take, drop, set, length-append, length-take, length-drop, ltb, ℤ, length-take-le, drop-set-lt, get_or-take, get_or-drop, take-add, take-take, take_at, drop_at, drop-drop}
use Rattle.std.proofs.Math.Seq.{take-set-le, take-set-lt, drop-set-add, set_out, take-append-le}
use borrow.Author.Tests.{ltb-true, ltb-false}
use Rattle.tree.specs.Limits.{most_nodes}
use Rattle.joining.specs.declared.Arena.{Arena}
use Rattle.joining.specs.Store.{rows_of, set_parent, SizedRows, SizedStore}
use Rattle.joining.specs.Links.{SizedLinks}
use Rattle.joining.specs.Buffers.{column, rows_in, links_in, Put, stored}

module _ {A : Type 0} (k : ℕ) (l : List A) where
  -- a column has no more than most_nodes
  pub column-most : length (column k l) ≤ most_nodes
  column-most = omega (arith, length-take most_nodes (drop (k * most_nodes) l))

  -- n is the place of node i
  module _ (i : ℕ) (h : i < most_nodes) {n : ℕ} (e : n ≡ k * most_nodes + i) where
    pub read : (d : A) → get_or l n d ≡ get_or (column k l) i d
    read d = ap (λ (m : ℕ). get_or l m d) e ∙ sym (get_or-take most_nodes (drop (k * most_nodes) l) i d h ∙ get_or-drop (k * most_nodes) l i d)

    pub put : (v : A) → Put k i v l (set l n v)
    put v = record { own = own; other = λ j d. by j d (ltb j k) refl }
      where
        own : column k (set l n v) ≡ set (column k l) i v
        own =
            ap (λ (m : ℕ). column k (set l m v)) e
            ∙ ap (take most_nodes) (drop-set-add (k * most_nodes) l i v)
            ∙ take-set-lt most_nodes (drop (k * most_nodes) l) i v h

        below : (j : ℕ) → j < k → column j (set l n v) ≡ column j l
        below j z =
            let m : ℕ = n - j * most_nodes in
            ap (λ (x : ℕ). column j (set l x v)) (omega arith)
            ∙ ap (take most_nodes) (drop-set-add (j * most_nodes) l m v)
            ∙ take-set-le most_nodes (drop (j * most_nodes) l) m v (omega arith)

        by : (j : ℕ) → (j ≡ k → ⊥) → (t : Bool) → ltb j k ≡ t → column j (set l n v) ≡ column j l
        by j d true t = below j (ltb-true j k t)
        by j d false t = ap (take most_nodes) (drop-set-lt (j * most_nodes) l n v (omega (arith, ltb-false j k t)))

  -- past its end nothing is stored
  pub put_past : (i : ℕ) (v : A) → most_nodes ≤ i → Put k i v l l
  put_past i v h = record { own = sym (set_out (column k l) i v (omega (arith, column-most))); other = λ j d. refl }

-- a parent is stored, at the place of node i
pub put_parent : (points : List ℤ) (path marks : List ℕ) (i v : ℕ) → i < most_nodes → {n : ℕ} → n ≡ i → rows_in points path (set marks n v) ≡ set_parent (rows_in points path marks) i v
put_parent points path marks i v h {n} e =
    let p : Put 0 i v marks (set marks n v) = put 0 marks i h (omega arith) v in
    λ k. rows_of (column 0 points) (column 1 points) path (p.own k) (p.other 1 (λ d. omega arith) k) (p.other 2 (λ d. omega arith) k)

-- ---- a column is lent as a part, `&mut s[k * N..(k + 1) * N]`, and is back as ys
pub record Lent {A : Type 0} (k : ℕ) (ys l l' : List A) : Type 0 where
  pub own : column k l' ≡ ys
  pub other : (j : ℕ) → (j ≡ k → ⊥) → column j l' ≡ column j l
  pub size : length l' ≡ length l

abbrev pub with_column : {A : Type 0} → ℕ → List A → List A → List A
with_column k l ys = take (k * most_nodes) l ++ (ys ++ drop most_nodes (drop (k * most_nodes) l))

-- all of column k is there
pub column-size : {A : Type 0} (k : ℕ) (l : List A) → k * most_nodes + most_nodes ≤ length l → length (column k l) ≡ most_nodes
column-size k l h = length-take-le most_nodes (drop (k * most_nodes) l) (omega (arith, length-drop (k * most_nodes) l))

-- so of a tree in an arena, whose arrays' lengths are in their types
pub sized_rows : (points : List ℤ) (path marks : List ℕ) → length points ≡ 2 * most_nodes → length path ≡ most_nodes → length marks ≡ 3 * most_nodes → SizedRows most_nodes (rows_in points path marks)
sized_rows points path marks p q m =
    record {
      xs = column-size 0 points (omega arith);
      ys = column-size 1 points (omega arith);
      path = q;
      parent = column-size 0 marks (omega arith);
      kind = column-size 1 marks (omega arith);
      number = column-size 2 marks (omega arith);
    }

pub sized-links : (l : List ℕ) → length l ≡ 3 * most_nodes → SizedLinks most_nodes (links_in l)
sized-links l e = record { last = column-size 0 l (omega arith); prev = column-size 1 l (omega arith); next = column-size 2 l (omega arith); few = omega arith }

-- and of an arena
pub sized_store : (a : Arena) → length a.nodes.points ≡ 2 * most_nodes → length a.nodes.path ≡ most_nodes → length a.nodes.marks ≡ 3 * most_nodes → length a.links ≡ 3 * most_nodes → SizedStore most_nodes (stored a)
sized_store a p q m l = record { rows = sized_rows a.nodes.points a.nodes.path a.nodes.marks p q m; links = sized-links a.links l }

-- a column that lies within the first n
front : {A : Type 0} (j n : ℕ) (l z : List A) → j * most_nodes + most_nodes ≤ n → n ≤ length l → column j (take n l ++ z) ≡ column j l
front j n l z h g =
    let a : ℕ = j * most_nodes in
    let m : ℕ = n - a in
    let w : n ≡ a + m = omega arith in
    let cut : take n l ≡ take a l ++ take m (drop a l) = ap (λ (x : ℕ). take x l) w ∙ take-add a m l in
    ap (λ x. take most_nodes (drop a (x ++ z))) cut
    ∙ ap (λ x. take most_nodes (drop a x)) (append_assoc (take a l) (take m (drop a l)) z)
    ∙ ap (take most_nodes) (drop_at (take a l) (take m (drop a l) ++ z) a (length-take-le a l (omega arith)))
    ∙ take-append-le most_nodes (take m (drop a l)) z (omega (arith, length-take-le m (drop a l) (omega (arith, length-drop a l))))
    ∙ take-take most_nodes m (drop a l) (omega arith)

module _ {A : Type 0} (k : ℕ) (l ys : List A) (h : k * most_nodes + most_nodes ≤ length l) (e : length ys ≡ length (column k l)) where
  abbrev a : ℕ
  a = k * most_nodes

  abbrev after : List A
  after = drop most_nodes (drop a l)

  abbrev l' : List A
  l' = with_column k l ys

  full : length ys ≡ most_nodes
  full = e ∙ column-size k l h

  before : length (take a l) ≡ a
  before = length-take-le a l (omega arith)

  beyond : drop (a + most_nodes) l' ≡ drop (a + most_nodes) l
  beyond =
      ap (drop (a + most_nodes)) (sym (append_assoc (take a l) ys after))
      ∙ drop_at (take a l ++ ys) after (a + most_nodes) (length-append (take a l) ys ∙ omega (arith, before, full))
      ∙ drop-drop most_nodes a l

  by : (j : ℕ) → (j ≡ k → ⊥) → (t : Bool) → ltb j k ≡ t → column j l' ≡ column j l
  by j d true t = front j a l (ys ++ after) (omega (arith, ltb-true j k t)) (omega arith)
  by j d false t =
      let m : ℕ = j * most_nodes - (a + most_nodes) in
      let e : j * most_nodes ≡ a + most_nodes + m = omega (arith, d, ltb-false j k t) in
      ap (λ (x : ℕ). take most_nodes (drop x l')) e
      ∙ ap (take most_nodes) (sym (drop-drop m (a + most_nodes) l') ∙ ap (drop m) beyond ∙ drop-drop m (a + most_nodes) l)
      ∙ ap (λ (x : ℕ). take most_nodes (drop x l)) (sym e)

  pub lent : Lent k ys l (with_column k l ys)
  lent =
      record {
        own = ap (take most_nodes) (drop_at (take a l) (ys ++ after) a before) ∙ take_at ys after most_nodes full;
        other = λ j d. by j d (ltb j k) refl;
        size = omega (arith, length-append (take a l) (ys ++ after), length-append ys after, before, full, length-drop most_nodes (drop a l), length-drop a l);
      }
