-- Each kind's rank function is a polymatroid. Assumes nothing.
use Rattle.polymatroid.specs.Polymatroid.{Polymatroid}
use Rattle.formula.specs.Ranking.{Ranking}
use Rattle.formula.specs.Vectors.{Vectors, vector_ranks, LawfulVectors}
use Rattle.formula.specs.Graphs.{Graphs, graph_ranks, LawfulGraphs}
use Rattle.formula.specs.Thresholds.{Thresholds, threshold_ranks, LawfulThresholds}

abbrev pub IsPolymatroid : Ranking → Type 0
IsPolymatroid r = Polymatroid r.n r.rank

abbrev pub VectorsPolymatroid : Type 0
VectorsPolymatroid = (v : Vectors) → LawfulVectors v → IsPolymatroid (vector_ranks v)

abbrev pub GraphsPolymatroid : Type 0
GraphsPolymatroid = (g : Graphs) → LawfulGraphs g → IsPolymatroid (graph_ranks g)

abbrev pub ThresholdsPolymatroid : Type 0
ThresholdsPolymatroid = (t : Thresholds) → LawfulThresholds t → IsPolymatroid (threshold_ranks t)
