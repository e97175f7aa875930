-- Models made of edges: the rank of a set is the number of nodes minus the number of connected parts of all nodes under its
-- members' edges. Assumes nothing.
use Rattle.std.specs.Prelude.{ℕ, ◌+◌, ◌-◌, ◌*◌, ◌≤◌, List, slice_index}
use Rattle.graph.specs.Graph.{Edge, parts}
use Rattle.formula.specs.Holding.{held_by_all, LawfulHolding}
use Rattle.formula.specs.Ranking.{Ranking}

-- the numbers of a graph model: the nodes are 0 and so on, an edge has two ends
pub record Graphs : Type 0 where
  pub participants : ℕ
  pub nodes : ℕ
  pub counts : List ℕ
  pub ends : List ℕ

-- the edge numbered j, by its two ends
abbrev pub edge_at : List ℕ → ℕ → Edge
edge_at ends j = (slice_index ends (j * 2), slice_index ends (j * 2 + 1))

abbrev pub graph_ranks : Graphs → Ranking
graph_ranks g = record {
  n = g.participants;
  rank = λ s. g.nodes - parts g.nodes (held_by_all (edge_at g.ends) g.counts s);
}

pub record LawfulGraphs (g : Graphs) : Type 0 where
  pub some : 1 ≤ g.participants
  pub few : g.participants ≤ 7
  pub two : 2 ≤ g.nodes
  pub most : g.nodes ≤ 16
  pub holding : LawfulHolding g.participants 2 g.nodes g.counts g.ends
