-- Cites the theorem that the function carries: the check finds none by itself.
use Rattle.formula.proofs.Vectors.{vectors_lawful}
use Rattle.formula.proofs.Graphs.{graphs_lawful}
use Rattle.formula.proofs.Thresholds.{thresholds_lawful}
use Rattle.formula.proofs.formulas_are_polymatroids.Goals as goal

pub returns : goal.returns
returns c = record { vectors = vectors_lawful; graphs = graphs_lawful; thresholds = thresholds_lawful }
