-- What is written means what was read.
use Rattle.std.proofs.Common.{◌≡◌, ℕ, List, [], ◌∷◌, length, Option, Some, refl, ap, ◌∙◌, subst}
use Rattle.std.specs.FinMap as fin
use Rattle.cg_base.specs.Outside.{Files}
use Rattle.cg_words.specs.declared.command.Command.{Command}
use Rattle.cg_words.specs.declared.command.Command.TheVariants.{Regtool, Tlgen, Topgen, Session, Probe, Sample}
use Rattle.cg_words.specs.declared.command.RegOut.{RegOut}
use Rattle.cg_words.specs.declared.command.RegOut.TheVariants.{Registers, Header, Completed}
use Rattle.cg_files.specs.Files.{File, some_file}
use Rattle.cg_outputs.specs.declared.out_file.OutFile.{OutFile}
use Rattle.cg_outputs.specs.Outputs.{AreOutputs}
use Rattle.cg_block.specs.Outputs.{register_output, header_output, completed_output}
use Rattle.cg_block.specs.Laws.{BlockOutputsMean}
use Rattle.cg_desc.specs.declared.crossbar.XbarDesc.{XbarDesc}
use Rattle.cg_crossbar.specs.Breaks.{IsGoodFile as GoodCrossbar}
use Rattle.cg_crossbar.specs.Laws.{CrossbarFileMeans}
use Rattle.cg_crossbar.proofs.Once.{good_one}
use Rattle.cg_keep.specs.Laws.{WhatIsBuiltMeans}
use Rattle.cg_gen.specs.declared.due.Due.{Due}
use Rattle.cg_gen.specs.declared.due.Status.TheVariants.{Built, Refused, NoCommand}
use Rattle.cg_deeds.specs.Outside.{World}
use Rattle.cg_deeds.specs.Deeds.{Contents, contents, after_deeds}
use Rattle.cg_gen.specs.Reads.{Read, read, GaveAll}
use Rattle.cg_gen.specs.OneFile as one
use Rattle.cg_gen.specs.Regtool as regtool
use Rattle.cg_gen.specs.Regtool.{Block}
use Rattle.cg_gen.specs.Tlgen as tlgen
use Rattle.cg_gen.specs.Commands.{IsBuiltCommand, folder_of, Writes}
use Rattle.cg_gen.specs.Commands as commands
use Rattle.cg_deeds.specs.Told.{built_line}
use Rattle.cg_gen.specs.Due.{HasReadAll, IsDue, no_command, refuses, builds, samples}
use Rattle.cg_gen.specs.Sample as sample
use Rattle.cg_gen.specs.Inner.{only_file}
use Rattle.cg_gen.specs.Run.{Performs}
use Rattle.cg_gen.specs.Meaning.{WritesMeaning, WritesOf}
use Rattle.cg_gen.proofs.Kept.{after, written_are, untouched, kept}
use Rattle.cg_gen.proofs.OneFile.{only_read, asked_for}
use Rattle.cg_gen.proofs.Planning.{regtool_reads_one, tlgen_reads_one, reads_are}
use Rattle.cg_gen.proofs.TopDue.{by_topgen}
use Rattle.cg_gen.proofs.Units.{block_given, block_one, crossbar_given}

-- each register text, the header or the completed description is held, with its meaning
holds : BlockOutputsMean → (made : RegOut) (dir : List ℕ) (file : File) (b : Block) (m : Files) (os : List OutFile) → regtool.Describes file b
    → AreOutputs (regtool.IsAskedFor made b) os → regtool.Holds made dir file b (after dir m os)
holds law Registers dir file b m os good are = λ face among.
    let o = register_output b.laid face in
    record {
      text = o.bytes;
      held = kept dir m os o are.rises ((are.member o).1 (record { face = face; among = among; is_text = refl }));
      means = (law file b.tree b.laid good).registers face among;
    }
holds law Header dir file b m os good are =
    record { text = (header_output b.laid).bytes; held = kept dir m os (header_output b.laid) are.rises ((are.member (header_output b.laid)).1 refl); means = (law file b.tree b.laid good).header }
holds law Completed dir file b m os good are =
    record {
      text = (completed_output b.tree b.laid).bytes;
      held = kept dir m os (completed_output b.tree b.laid) are.rises ((are.member (completed_output b.tree b.laid)).1 refl);
      means = (law file b.tree b.laid good).completed;
    }

-- the crossbar's text is held, with its meaning
holds_crossbar : CrossbarFileMeans → (dir : List ℕ) (file : File) (x : XbarDesc) (m : Files) (os : List OutFile) → GoodCrossbar file x → AreOutputs (tlgen.IsAskedFor x) os
    → tlgen.Holds dir file x (after dir m os)
holds_crossbar law dir file x m os good are =
    record { text = (tlgen.text_of x).bytes; held = kept dir m os (tlgen.text_of x) are.rises ((are.member (tlgen.text_of x)).1 refl); means = law file x good }

-- ---- a command of one description

module _ {X : Type 0} (Describes : File → X → Type 0) (IsAskedFor : X → OutFile → Type 0) (given_of : (file : File) (x : X) → Describes file x → (bytes : List ℕ) × (file.given ≡ Some bytes))
    (is_one : (file : File) (x y : X) → Describes file x → Describes file y → x ≡ y) where
  -- the description was there, and what is written is what is asked for of what it describes
  record WasGood (file : List ℕ) (m : Files) (os : List OutFile) : Type 0 where
    pub description : List ℕ
    pub is_description : fin.get m file ≡ Some description
    pub described : X
    pub is_good : Describes (some_file 0 0 description) described
    pub are : AreOutputs (IsAskedFor described) os

  was_good : (file : List ℕ) (m : Files) (os : List OutFile) → one.IsGood Describes (read file (fin.get m file) ∷ [])
      → AreOutputs (one.IsOutput Describes IsAskedFor (read file (fin.get m file) ∷ [])) os → WasGood file m os
  was_good file m os good are =
      let r = read file (fin.get m file) in
      let here : Describes (only_file r.given) good.described = subst (λ f. Describes f good.described) (only_read r good.file good.among) good.is_good in
      let given = given_of (only_file r.given) good.described here in
      record {
        description = given.0;
        is_description = given.1;
        described = good.described;
        is_good = subst (λ g. Describes (only_file g) good.described) given.1 here;
        are = asked_for (λ f g. ⊥) Describes IsAskedFor is_one r good.described os here are;
      }

  written : (Holds : File → X → Files → Type 0) (dir file : List ℕ) (m : Files) (os : List OutFile) (w : WasGood file m os)
      → Holds (some_file 0 0 w.description) w.described (after dir m os) → one.Writes Describes IsAskedFor Holds dir file m (after dir m os)
  written Holds dir file m os w is = record {
    description = w.description;
    is_description = w.is_description;
    described = w.described;
    is_good = w.is_good;
    holds = is;
    others = λ name none. untouched dir m os name (λ o among. none o ((w.are.member o).0 among));
  }

by_regtool : BlockOutputsMean → (made : RegOut) (dir file : List ℕ) (m : Files) (os : List OutFile) → regtool.IsGood (read file (fin.get m file) ∷ [])
    → AreOutputs (regtool.IsOutput made (read file (fin.get m file) ∷ [])) os → regtool.WritesBlock made dir file m (after dir m os)
by_regtool law made dir file m os good are =
    let w = was_good regtool.Describes (regtool.IsAskedFor made) block_given block_one file m os good are in
    written regtool.Describes (regtool.IsAskedFor made) block_given block_one (regtool.Holds made dir) dir file m os w (holds law made dir (some_file 0 0 w.description) w.described m os w.is_good w.are)

by_tlgen : CrossbarFileMeans → (dir file : List ℕ) (m : Files) (os : List OutFile) → tlgen.IsGood (read file (fin.get m file) ∷ [])
    → AreOutputs (tlgen.IsOutput (read file (fin.get m file) ∷ [])) os → tlgen.WritesCrossbar dir file m (after dir m os)
by_tlgen law dir file m os good are =
    let w = was_good GoodCrossbar tlgen.IsAskedFor crossbar_given good_one file m os good are in
    written GoodCrossbar tlgen.IsAskedFor crossbar_given good_one (tlgen.Holds dir) dir file m os w (holds_crossbar law dir (some_file 0 0 w.description) w.described m os w.is_good w.are)

-- ---- all commands

-- the laws of blocks, of crossbars and of tops
pub record Laws : Type 0 where
  pub blocks : BlockOutputsMean
  pub crossbars : CrossbarFileMeans
  pub tops : WhatIsBuiltMeans

-- the files after a command's outputs are written
writes : Laws → (c : Command) (m : Files) (reads : List Read) (os : List OutFile) → IsBuiltCommand c → GaveAll (Some m) reads → HasReadAll c reads → commands.IsGood c reads
    → commands.AreWritten c reads os → Writes c m (after (folder_of c) m os)
writes laws (Regtool made dir file) m reads os built gave has good are =
    let same = reads_are (Regtool made dir file) file (regtool_reads_one made dir file) m reads gave has in
    by_regtool laws.blocks made dir file m os (subst regtool.IsGood same good) (subst (λ rs. AreOutputs (regtool.IsOutput made rs) os) same are)
writes laws (Tlgen file dir) m reads os built gave has good are =
    let same = reads_are (Tlgen file dir) file (tlgen_reads_one file dir) m reads gave has in
    by_tlgen laws.crossbars dir file m os (subst tlgen.IsGood same good) (subst (λ rs. AreOutputs (tlgen.IsOutput rs) os) same are)
writes laws (Topgen file dir workers) m reads os built gave has good are = by_topgen laws.tops file dir workers m reads os gave has are
writes laws (Session file dir workers) m reads os built gave has good are = absurd built
writes laws (Probe dir host address) m reads os built gave has good are = absurd built
writes laws (Sample number) m reads os built gave has good are = absurd good

abbrev Means : List (List ℕ) → Files → Option Files → Type 0
Means words m files = (n : Files) × (files ≡ Some n) × WritesOf words m n

by_due : Laws → (words : List (List ℕ)) (m : Files) (reads : List Read) (due : Due) (files : Option Files) (out err : Option (List ℕ)) → IsDue words reads due → GaveAll (Some m) reads
    → due.status ≡ Built → files ≡ (after_deeds due.deeds (record { files = Some m; out = out; err = err })).files → Means words m files
by_due laws words m _ _ files out err (no_command other) gave status done = absurd (let bad : NoCommand ≡ Built = status in cc)
by_due laws words m _ _ files out err (refuses reads fault c is has first) gave status done = absurd (let bad : Refused ≡ Built = status in cc)
by_due laws words m _ _ files out err (builds reads c os is built has sound good are) gave status done = (
  after (folder_of c) m os,
  done ∙ written_are (folder_of c) (built_line (length os) 0) m os out err,
  record { command = c; is_command = is; writes = writes laws c m reads os built gave has good are },
)
by_due laws words m _ _ files out err (samples number _ is (sample.counts counts are)) gave status done = (m, done, record { command = Sample number; is_command = is; writes = refl })
by_due laws words m _ _ files out err (samples number _ is (sample.refuses fault names first wanted)) gave status done = absurd (let bad : Refused ≡ Built = status in cc)

-- a run that built what was due
pub built_means : Laws → (words : List (List ℕ)) (before after : World) → Performs Built words before after → WritesMeaning words before after
built_means laws words before after p m told =
    let files : after.outlets.files ≡ (after_deeds p.due.deeds (contents before.outlets)).files = ap (λ (c : Contents). c.files) p.is_done in
    let from : contents before.outlets ≡ record { files = Some m; out = before.outlets.out; err = before.outlets.err } =
    (λ i. record { files = told i; out = before.outlets.out; err = before.outlets.err }) in
    by_due laws words m p.reads p.due after.outlets.files before.outlets.out before.outlets.err p.finds.is_due (subst (λ f. GaveAll f p.reads) told p.finds.gave) p.is_status
    (files ∙ ap (λ c. (after_deeds p.due.deeds c).files) from)
