use Rattle.std.proofs.Common.{◌≡◌}
use Rattle.cg_gen.specs.Sample.{with_files}
use Rattle.cg_gen.proofs.samples.put_all.Given as goal

-- the files so far are put, and with those that are left all are
abbrev pub invariant-loop-file : goal.invariant-loop-file
invariant-loop-file l = record {
  stays : l.keep ≡ record l.fn.keep { files = l.keep.files };
  puts : with_files l.keep.files l.file-iterator.rest.items ≡ with_files l.fn.keep.files l.fn.files;
}
