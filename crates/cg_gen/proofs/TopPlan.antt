-- How the planning of `topgen` ends, from how the reading of its files ends.
use Rattle.std.proofs.Common.{◌≡◌, ℕ, suc, ◌-◌, ◌<◌, ◌≤◌, List, [], ◌∷◌, ◌++◌, length, take, drop, map, slice_get, Option, Some, None, Ok, Err, sym, ap, subst, ◌∙◌, arith}
use Rattle.std.specs.FinMap as fin
use Rattle.std.proofs.lemmas.List.{take_all}
use Rattle.cg_base.specs.Outside.{also_asked}
use Rattle.cg_desc.specs.declared.fault.Fault.{Fault}
use Rattle.cg_finding.specs.Violations.{IsFirstFault}
use Rattle.cg_outputs.specs.declared.out_file.OutFile.{OutFile}
use Rattle.cg_keep.specs.Files.{AreWanted, IsBuilt, Violates}
use Rattle.cg_keep.specs.Kept.{Kept}
use Rattle.cg_keep.specs.Laws.{BuiltBreaksNothing}
use Rattle.cg_keep.proofs.Wanted.{wanted_first}
use Rattle.cg_words.specs.Words.{IsCommand}
use Rattle.cg_words.specs.declared.command.Command.TheVariants.{Topgen}
use Rattle.cg_gen.specs.declared.due.Due.{Due}
use Rattle.cg_deeds.specs.declared.stop.Stop.{Stop}
use Rattle.cg_deeds.specs.declared.stop.Stop.TheVariants as stop
use Rattle.cg_gen.specs.Reads.{GaveAll, Read, names_of}
use Rattle.cg_gen.specs.Topgen.{NextRead, StandsIn, files_read, with_reads, own as own_file, next as next_file}
use Rattle.cg_gen.specs.Due.{due_of_fault, due_of_outputs, none as no_read}
use Rattle.cg_gen.specs.Run.{NextReadFails}
use Rattle.cg_gen.specs.Inner.{IsDueFrom, PlanEnds}
use Rattle.cg_gen.specs.Gathering.{AreOfNames, GatherEnds, Gathered, GatheredAll, GatheredTop, NextFails, Shown, TopEnds, TopFails, at_first, behind}
use Rattle.cg_gen.proofs.Gathering.{asked_behind, gathered_more, rose_behind}
use Rattle.cg_gen.proofs.Planning.{due_behind}
use Rattle.cg_gen.proofs.TopDue.{fault_due, named_so, outputs_due}
use Rattle.cg_gen.proofs.TopReads.{has_read_all, has_read_so}

-- some workers, and at most 64
pub some_worker : (words : List (List ℕ)) (file dir : List ℕ) (workers : ℕ) → IsCommand words (Topgen file dir workers) → 0 < workers
some_worker [] file dir workers is = absurd is
some_worker (tool ∷ words) file dir workers is = let low = is.1.count.from_low in omega (arith, low)

pub few_workers : (words : List (List ℕ)) (file dir : List ℕ) (workers : ℕ) → IsCommand words (Topgen file dir workers) → workers ≤ 64
few_workers [] file dir workers is = absurd is
few_workers (tool ∷ words) file dir workers is = is.1.count.to_high

-- ---- the reading of a top's files

module _ (folder own : List ℕ) (before : Shown) (kept : Kept) where
  -- the top's own file was read, and then all that it names
  pub top_gathered : (between after : Shown) (kept' kept'' : Kept) (names rest : List (List ℕ)) → names ≡ own ∷ rest → (first : GatheredAll folder (own ∷ []) before between kept kept')
      → AreWanted (fin.get kept'.files own) own names → GatheredAll folder rest between after kept' kept'' → GatheredTop folder own names before after kept kept''
  top_gathered between after kept' kept'' names rest cut one wanted others = by one.reads one.gathered one.count where
    by : (rs : List Read) → Gathered folder (own ∷ []) before between kept kept' rs → length rs ≡ 1 → GatheredTop folder own names before after kept kept''
    by [] h count = absurd (omega (arith, count))
    by (r ∷ s ∷ rs) h count = absurd (h.of_names.1)
    by (r ∷ []) h count =
        let g = others.gathered in
        record {
          first = r;
          more = others.reads;
          wanted = subst (λ (k : Kept). AreWanted (fin.get k.files own) own names) h.are_kept wanted;
          gathered = gathered_more folder names before between after kept kept' kept'' (own ∷ []) rest (r ∷ []) others.reads h g
              (subst (AreOfNames folder (r ∷ others.reads)) (sym cut) (h.of_names.0, g.of_names));
          count = ap suc others.count ∙ ap length (sym cut);
        }

  -- the read of the top's own file failed
  pub first_fails : (after : Shown) → NextFails folder (own ∷ []) before after → TopFails folder own before after kept
  first_fails after f = by f.reads f.of_names f.is_next f.asked_for where
    by : (rs : List Read) → AreOfNames folder rs (own ∷ []) → slice_get (own ∷ []) (length rs) ≡ Some f.next → after.asked ≡ also_asked before.asked (names_of rs ++ (folder ++ f.next) ∷ [])
        → TopFails folder own before after kept
    by (r ∷ rs) of is asked = absurd (let bad : ◌≡◌ {A = Option (List ℕ)} None (Some f.next) = is in cc)
    by [] of is asked = let same : own ≡ f.next = cc in at_first (asked ∙ ap (λ n. also_asked before.asked ((folder ++ n) ∷ [])) (sym same)) f.rose

  -- that of one that it names did
  pub later_fails : (between after : Shown) (kept' : Kept) (names rest : List (List ℕ)) → names ≡ own ∷ rest → GatheredAll folder (own ∷ []) before between kept kept' → AreWanted (fin.get kept'.files own) own names
      → NextFails folder rest between after → TopFails folder own before after kept
  later_fails between after kept' names rest cut one wanted f = by one.reads one.gathered one.count where
    by : (rs : List Read) → Gathered folder (own ∷ []) before between kept kept' rs → length rs ≡ 1 → TopFails folder own before after kept
    by [] h count = absurd (omega (arith, count))
    by (r ∷ s ∷ rs) h count = absurd (h.of_names.1)
    by (r ∷ []) h count =
        behind r f.reads names f.next (subst (λ (k : Kept). AreWanted (fin.get k.files own) own names) h.are_kept wanted)
        (subst (AreOfNames folder (r ∷ f.reads)) (sym cut) (h.of_names.0, f.of_names))
        (h.gave.0, subst (λ files. GaveAll files f.reads) h.same f.gave)
        (ap (λ ns. slice_get ns (length (r ∷ f.reads))) cut ∙ f.is_next)
        (f.asked_for ∙ ap (λ a. also_asked a (names_of f.reads ++ (folder ++ f.next) ∷ [])) h.asked_for ∙ asked_behind before.asked (r.name ∷ []) (names_of f.reads ++ (folder ++ f.next) ∷ []))
        (rose_behind before.faults between.faults after.faults h.later f.rose)

-- ---- from its steps

-- all but the first of a list
rest_of : (xs : List (List ℕ)) (own : List ℕ) (rest : List (List ℕ)) → xs ≡ own ∷ rest → take (length xs - 1) (drop 1 xs) ≡ rest
rest_of xs own rest is = ap (λ ys. take (length ys - 1) (drop 1 ys)) is ∙ take_all (length (own ∷ rest) - 1) rest (omega arith)

module _ (folder own : List ℕ) (before between after : Shown) (kept kept' kept'' : Kept) (is_own : kept.top ≡ own) (one : GatheredAll folder (own ∷ []) before between kept kept')
    (names listed : List (List ℕ)) (wanted : AreWanted (fin.get kept'.files kept'.top) kept'.top names) (is_listed : listed ≡ names) where
  wanted_here : AreWanted (fin.get kept'.files own) own names
  wanted_here = subst (λ top. AreWanted (fin.get kept'.files top) top names) (ap (λ (k : Kept). k.top) one.gathered.are_kept ∙ is_own) wanted

  cut : (rest : List (List ℕ)) × (names ≡ own ∷ rest)
  cut = wanted_first (fin.get kept'.files own) own names wanted_here

  -- all were read
  pub all_gathered : GatheredAll folder (take (length listed - 1) (drop 1 listed)) between after kept' kept'' → GatheredTop folder own names before after kept kept''
  all_gathered others =
      top_gathered folder own before kept between after kept' kept'' names cut.0 cut.1 one wanted_here
      (subst (λ ns. GatheredAll folder ns between after kept' kept'') (rest_of listed own cut.0 (is_listed ∙ cut.1)) others)

  -- or one was stopped
  pub some_stopped : (e : Stop) → GatherEnds (Err e) folder (take (length listed - 1) (drop 1 listed)) between after kept' kept'' → TopEnds (Err e) folder own before after kept kept''
  some_stopped stop.Failed fails =
      later_fails folder own before kept between after kept' names cut.0 cut.1 one wanted_here (subst (λ ns. NextFails folder ns between after) (rest_of listed own cut.0 (is_listed ∙ cut.1)) fails)
  some_stopped stop.Memory none = tt

-- ---- what is due

module _ (file dir : List ℕ) (workers : ℕ) (folder own : List ℕ) (stands : StandsIn file folder own) (words : List (List ℕ)) (is : IsCommand words (Topgen file dir workers))
    (before after : Shown) (kept kept' : Kept) (nothing : kept.files ≡ fin.empty) where
  -- all its files were read, and this is due for them
  pub top_planned : (names : List (List ℕ)) (due : Due) → (g : GatheredTop folder own names before after kept kept') → IsDueFrom (Topgen file dir workers) (g.first ∷ g.more) due
      → PlanEnds (Ok due) words before.files before.asked after.asked before.faults after.faults
  top_planned names due g for = (
    g.first ∷ g.more,
    record {
      gave = g.gathered.gave;
      asked_for = g.gathered.asked_for;
      is_due = due_behind words (Topgen file dir workers) (g.first ∷ g.more) due is tt
          (has_read_all file dir workers folder own stands g.first g.more names (subst (λ files. AreWanted (fin.get (with_reads folder files (g.first ∷ [])) own) own names) nothing g.wanted) g.gathered.of_names g.count)
          for;
    },
  )

  -- the reads that are kept are those of its folder
  pub top_kept : (names : List (List ℕ)) → (g : GatheredTop folder own names before after kept kept') → kept'.files ≡ files_read folder (g.first ∷ g.more)
  top_kept names g = ap (λ (k : Kept). k.files) g.gathered.are_kept ∙ ap (λ files. with_reads folder files (g.first ∷ g.more)) nothing

  pub top_named : (names : List (List ℕ)) → (g : GatheredTop folder own names before after kept kept') → names_of (g.first ∷ g.more) ≡ map (λ name. folder ++ name) names
  top_named names g = named_so folder (g.first ∷ g.more) names g.gathered.of_names g.count

  own_top : kept.top ≡ own → (names : List (List ℕ)) → GatheredTop folder own names before after kept kept' → kept'.top ≡ own
  own_top is_own names g = ap (λ (k : Kept). k.top) g.gathered.are_kept ∙ is_own

  -- the first fault of its files is told
  pub refused_planned : kept.top ≡ own → (names : List (List ℕ)) (fault : Fault) (due : Due) → (g : GatheredTop folder own names before after kept kept') → IsFirstFault (Violates kept'.top kept'.files) fault
      → due ≡ due_of_fault (g.first ∷ g.more) fault → PlanEnds (Ok due) words before.files before.asked after.asked before.faults after.faults
  refused_planned is_own names fault due g first told =
      let here = subst (λ files. IsFirstFault (Violates own files) fault) (top_kept names g) (subst (λ top. IsFirstFault (Violates top kept'.files) fault) (own_top is_own names g) first) in
      top_planned names due g (fault_due file dir workers folder own stands (g.first ∷ g.more) fault due here told)

  -- what is built of its files is written
  pub built_planned : BuiltBreaksNothing → kept.top ≡ own → (names : List (List ℕ)) (outputs : List OutFile) (due : Due) → GatheredTop folder own names before after kept kept' → IsBuilt kept'.top kept'.files outputs
      → due ≡ due_of_outputs dir outputs → PlanEnds (Ok due) words before.files before.asked after.asked before.faults after.faults
  built_planned law is_own names outputs due g built told =
      let here = subst (λ files. IsBuilt own files outputs) (top_kept names g) (subst (λ top. IsBuilt top kept'.files outputs) (own_top is_own names g) built) in
      top_planned names due g (outputs_due file dir workers folder own stands (g.first ∷ g.more) law outputs due here told)

  failed : TopFails folder own before after kept → NextReadFails words before.files before.asked after.asked before.faults after.faults
  failed (at_first asked rose) = record {
    command = Topgen file dir workers;
    is_command = is;
    reads = [];
    gave = tt;
    has_read = no_read;
    next = folder ++ own;
    is_next = subst (NextRead file []) stands.is own_file;
    asked_for = asked;
    rose = rose;
  }
  failed (behind first more names next wanted of gave at asked rose) =
      let here = subst (λ files. AreWanted (fin.get (with_reads folder files (first ∷ [])) own) own names) nothing wanted in
      record {
        command = Topgen file dir workers;
        is_command = is;
        reads = first ∷ more;
        gave = gave;
        has_read = has_read_so file dir workers folder own stands first names here more of;
        next = folder ++ next;
        is_next = next_file first more stands here at;
        asked_for = asked;
        rose = rose;
      }

  -- a read that was stopped
  pub top_stopped : (e : Stop) → TopEnds (Err e) folder own before after kept kept' → PlanEnds (Err e) words before.files before.asked after.asked before.faults after.faults
  top_stopped stop.Failed fails = failed fails
  top_stopped stop.Memory fails = tt
