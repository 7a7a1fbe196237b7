-- `put_labelled_text` meets its contract.
-- Assumes nothing.
use Rattle.clumps_text.specs.Text.{decimal, runs_name, joins_name, cells_name, objects_name, labels_name}
use Rattle.clumps_text.specs.Output.{labelled_text}
use Rattle.overlay.proofs.WriterLaws.{writes_then}
use Rattle.clumps_text.proofs.PrintLaws.{writes_line}
use Rattle.clumps_text.proofs.put_labelled_text.Goals as goal

pub returns : goal.returns
unfolding labelled_text runs_name joins_name cells_name objects_name labels_name
returns c =
    let s = c.args in
    writes_line runs_name (decimal s.counted.figures.runs) _ c.put_line.ensures
    (writes_line joins_name (decimal s.counted.figures.joins) _ c.put_line-2.ensures
    (writes_line cells_name (decimal s.counted.figures.cells) _ c.put_line-3.ensures
    (writes_line objects_name (decimal s.counted.n) _ c.put_line-4.ensures
    (writes_then c.put_all.ensures (writes_then c.put_decimals.ensures c.put.ensures)))))
