use Rattle.std.proofs.Common.{map}
use Rattle.std.specs.Prelude.{string_bytes}
use Rattle.cg_gen.proofs.ByWords.{files_run, nothing_runs, words_of}
use Rattle.cg_gen.proofs.Endings.{ended}
use Rattle.cg_gen.proofs.Meanings.{built_means}
use Rattle.cg_gen.proofs.top.run.Goals as goal

-- the words are the command that was read, or none
pub run_on_files-requires-after_bounds : goal.run_on_files-requires-after_bounds
run_on_files-requires-after_bounds g c κs lives =
    let words = map string_bytes c.args.words.now in
    (words, words_of words c.read_words.result c.in-OnFiles.command c.in-OnFiles.ensures c.read_words.ensures)

-- what was written means what was read, by the laws of blocks, of crossbars and of tops
pub returns-in-OnFiles-clause-runs : goal.returns-in-OnFiles-clause-runs
returns-in-OnFiles-clause-runs g c =
    let words = map string_bytes c.args.words.now in
    let are = words_of words c.read_words.result c.in-OnFiles.command c.in-OnFiles.ensures c.read_words.ensures in
    files_run words c.read_words.result c.in-OnFiles.command _ _ _ c.in-OnFiles.ensures are
    (ended c.a_build_is_one.ensures.unbroken c.run_on_files.result _ _ _ _ (c.run_on_files.ensures.ends words are)
    c.run_on_files.ensures.input c.code-in-OnFiles.ensures
    (built_means (record { blocks = c.block_outputs_mean.ensures.mean; crossbars = c.crossbar_output_means.ensures.mean; tops = c.what_is_built_means.ensures }) _ _ _))

-- memory was not found for the words
pub returns-in-Memory-clause-runs : goal.returns-in-Memory-clause-runs
returns-in-Memory-clause-runs g c =
    nothing_runs c.a_build_is_one.ensures.unbroken c.a_session_means.ensures.holds (map string_bytes c.args.words.now) _ _ c.code-in-Memory.ensures
    (built_means (record { blocks = c.block_outputs_mean.ensures.mean; crossbars = c.crossbar_output_means.ensures.mean; tops = c.what_is_built_means.ensures }) _ _ _)
