-- The figures, as plain values.
use Rattle.report_writer.specs.WholeTail.{whole_tail_of}
use Rattle.run_engine.proofs.OutfallLemmas.{outfall_nodes_in}
use Rattle.run_engine.proofs.SubLemmas.{total_runoff_is}
use Rattle.run_engine.proofs.output.put_figures.Goals as goal

pub put_whole_tail-requires : goal.put_whole_tail-requires
put_whole_tail-requires g c = record {
  outfall_nodes = rw (c.as_slice-2.ensures, c.outfalls.ensures) (outfall_nodes_in c.requires.outfalls);
  runoff_volumes = c.total-runoff.ensures.range;
}

pub returns-clause-bytes : goal.returns-clause-bytes
unfolding whole_tail_of
returns-clause-bytes g c =
    let runoff = total_runoff_is _ _ c.total-runoff.ensures.total in
    simp (
      c.as_slice.ensures,
      c.nodes.ensures,
      c.as_slice-2.ensures,
      c.outfalls.ensures,
      c.as_slice-3.ensures,
      c.links.ensures,
      c.as_slice-4.ensures,
      c.subs.ensures,
      runoff,
    ) at c.put_whole_tail.ensures.bytes
