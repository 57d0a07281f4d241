-- In the arena of a lent tree a tree stands: the type says that one does, and the columns tell which.
use Rattle.std.proofs.Common.{ℕ, suc, ◌+◌, ◌-◌, ◌*◌, ◌≤◌, refl, sym, subst, List, arith, length, pos}
use Rattle.std.proofs.Math.Bridge.{le_prop}
use Rattle.std.proofs.Math.Logic.{∥∥₁_elim, ∥∥₁_map}
use Rattle.tree.specs.Limits.{across, most_nodes}
use Rattle.tree.specs.Tree.{Node, Name, Tree, source, steiner, terminal, node_at, terminals}
use Rattle.tree.specs.Shape.{Given, name_of}
use Rattle.tree.specs.WellFormed.{WellFormed}
use Rattle.tree.proofs.Merely.{formed_of}
use Rattle.joining.specs.Store.{Columns, Keeps, node_of, nodes_of}
use Rattle.joining.proofs.Reading.{length_upto}
use Rattle.joining.proofs.Merely.{keeps_of, sized_of}
use Rattle.measures.specs.declared.Lent.{Lent}
use Rattle.measures.specs.Standing.{Held, Lends, lent, nodes_in}
use Rattle.measures.proofs.Reading.{Read, nodes-same, read}

-- the tree of the columns' nodes. Of the numbers given next the columns tell only the terminals': the Steiner nodes' is the highest that may be, and what no reader looks at is 0
abbrev pub taken : List Node → Tree
taken ns = record { nodes = ns; allowed = pos 0; farthest = 0; limit = 0; next_steiner = most_nodes + 1; next_terminal = suc (length (terminals ns)) }

module _ (t : Tree) (f : WellFormed t) (numbers : t.next_steiner ≤ most_nodes + 1) where
  given-more : (x : Name) → Given t.next_steiner t.next_terminal x → Given (most_nodes + 1) (suc (length (terminals t.nodes))) x
  given-more source g = absurd g
  given-more (steiner k) g = (g.0, omega (arith, g.1, numbers))
  given-more (terminal k) g = (g.0, omega (arith, g.1, f.terminals))

  formed_taken : WellFormed (taken t.nodes)
  formed_taken =
      record {
        linked = f.linked;
        named =
            record {
              steiners = omega arith;
              terminals = omega arith;
              source_name = f.named.source_name;
              given = λ i a b. given-more (name_of t.nodes i) (f.named.given i a b);
              distinct = f.named.distinct;
            };
        near = f.near;
        short = λ i. subst (λ (k : ℕ). (node_at t.nodes i).path ≤ across * (k - 1)) (sym f.terminals) (f.short i);
        terminals = refl;
      }

module _ {n : ℕ} {c : Columns} (h : ∥ Held n c ∥₁) where
  few : n ≤ most_nodes
  few = ∥∥₁_elim h le_prop (λ s. s.few)

  room : n ≤ length c.rows.xs
  room = ∥∥₁_elim h le_prop (λ s. s.room)

  formed : WellFormed (taken (nodes_of c n))
  formed = formed_of (taken (nodes_of c n)) (∥∥₁_map h (λ s. subst (λ (ns : List Node). WellFormed (taken ns)) (sym (nodes-same s)) (formed_taken s.tree s.formed s.numbers)))

  pub held_of : Held n c
  held_of =
      record {
        tree = taken (nodes_of c n);
        formed = formed;
        size = length_upto (node_of c) n;
        few = few;
        numbers = omega arith;
        keeps = keeps_of (∥∥₁_map h (λ s. subst (λ (ns : List Node). Keeps ns c) (sym (nodes-same s)) s.keeps));
        sized = sized_of (∥∥₁_map h (λ s. s.sized));
        room = room;
      }

-- **in the arena of what is lent a tree stands**
pub lent_of : (l : Lent) → Lends l.arena.now
lent_of l = held_of l.held

-- what is read of it
pub reads : (l : Lent) → Read (nodes_in l.arena.now) (lent l.arena.now) l.arena.now.counts.nodes
reads l = read (lent_of l)
