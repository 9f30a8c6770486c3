-- What is due has one status, where the files are told.
use Rattle.std.proofs.Common.{◌≡◌, ℕ, List, Some, refl, sym, ◌∙◌, subst}
use Rattle.cg_base.specs.Outside.{Files}
use Rattle.cg_desc.specs.declared.fault.Fault.{Fault}
use Rattle.cg_words.specs.Words.{IsCommand}
use Rattle.cg_words.specs.declared.command.Command.{Command}
use Rattle.cg_words.specs.declared.command.Command.TheVariants.{Regtool, Tlgen, Topgen, Session, Probe, Sample}
use Rattle.cg_words.proofs.ExactWords.{one_command}
use Rattle.cg_gen.specs.declared.due.Due.{Due}
use Rattle.cg_gen.specs.Reads.{Read, GaveAll}
use Rattle.cg_gen.specs.Commands.{IsBuiltCommand, IsGood, NextRead, Violates}
use Rattle.cg_gen.specs.Due.{HasReadAll, IsDue, no_command, refuses, builds, samples}
use Rattle.cg_gen.specs.Sample.{IsSampleDue, files_of_sample, sample_name}
use Rattle.cg_gen.specs.Sample as sample
use Rattle.cg_keep.specs.Laws.{BuiltBreaksNothing}
use Rattle.cg_gen.proofs.SameReads.{same_all}
use Rattle.cg_gen.proofs.TopReads.{next_once}

-- a command's next read is determined
read_once : (c : Command) → IsBuiltCommand c → (reads : List Read) (a b : List ℕ) → NextRead c reads a → NextRead c reads b → a ≡ b
read_once (Regtool made dir file) built reads a b is also = is.description ∙ sym also.description
read_once (Tlgen file dir) built reads a b is also = is.description ∙ sym also.description
read_once (Topgen file dir workers) built reads a b is also = next_once file reads a b is also
read_once (Session file dir workers) built reads a b is also = absurd built
read_once (Probe dir host address) built reads a b is also = absurd built
read_once (Sample number) built reads a b is also = absurd is

-- and so are its reads
same_reads : (m : Files) (c : Command) → IsBuiltCommand c → (reads others : List Read) → GaveAll (Some m) reads → GaveAll (Some m) others → HasReadAll c reads → HasReadAll c others → reads ≡ others
same_reads m c built reads others gave gave' has has' = same_all c (read_once c built) m reads others gave gave' has has'

-- a command with a violation is built
pub built_of : (c : Command) (reads : List Read) (fault : Fault) → Violates c reads fault → IsBuiltCommand c
built_of (Regtool made dir file) reads fault v = tt
built_of (Tlgen file dir) reads fault v = tt
built_of (Topgen file dir workers) reads fault v = tt
built_of (Session file dir workers) reads fault v = absurd v
built_of (Probe dir host address) reads fault v = absurd v
built_of (Sample number) reads fault v = tt

-- a build with a fault is none without
not_both : (words : List (List ℕ)) (m : Files) (c d : Command) (reads others : List Read) (fault : Fault) → IsCommand words c → IsCommand words d → IsBuiltCommand d
    → GaveAll (Some m) reads → GaveAll (Some m) others → HasReadAll c reads → HasReadAll d others → Violates c reads fault → ((f : Fault) → ¬ Violates d others f) → ⊥
not_both words m c d reads others fault is is' built gave gave' has has' v sound =
    let same : c ≡ d = one_command words c d is is' in
    let here = subst (λ x. HasReadAll x reads) same has in
    let reads_same = same_reads m d built reads others gave gave' here has' in
    sound fault (subst (λ rs. Violates d rs fault) reads_same (subst (λ x. Violates x reads fault) same v))

-- files that are built break nothing, so a sample has one status
sample_once : BuiltBreaksNothing → (number : ℕ) (d e : Due) → IsSampleDue number d → IsSampleDue number e → d.status ≡ e.status
sample_once law number _ _ (sample.counts counts are) (sample.counts counts' are') = refl
sample_once law number _ _ (sample.counts counts are) (sample.refuses fault names first wanted) =
    absurd (law sample_name (files_of_sample number) _ fault are.is_built first.violates)
sample_once law number _ _ (sample.refuses fault names first wanted) (sample.counts counts are) =
    absurd (law sample_name (files_of_sample number) _ fault are.is_built first.violates)
sample_once law number _ _ (sample.refuses fault names first wanted) (sample.refuses fault' names' first' wanted') = refl

-- a sample's files are its own, so no command of a store's files is one
no_sample_refuses : (words : List (List ℕ)) (c : Command) (number : ℕ) (reads : List Read) (fault : Fault) → IsCommand words c → IsCommand words (Sample number) → Violates c reads fault → ⊥
no_sample_refuses words c number reads fault is is' v = subst (λ x. Violates x reads fault) (one_command words c (Sample number) is is') v

no_sample_builds : (words : List (List ℕ)) (c : Command) (number : ℕ) (reads : List Read) → IsCommand words c → IsCommand words (Sample number) → IsGood c reads → ⊥
no_sample_builds words c number reads is is' good = subst (λ x. IsGood x reads) (one_command words c (Sample number) is is') good

same_number : (words : List (List ℕ)) (n k : ℕ) → IsCommand words (Sample n) → IsCommand words (Sample k) → n ≡ k
same_number words n k is also = let same : Sample n ≡ Sample k = one_command words (Sample n) (Sample k) is also in cc

pub status_once : BuiltBreaksNothing → (words : List (List ℕ)) (m : Files) (reads others : List Read) (d e : Due) → GaveAll (Some m) reads → GaveAll (Some m) others
    → IsDue words reads d → IsDue words others e → d.status ≡ e.status
status_once law words m _ _ _ _ gave gave' (no_command none) (no_command none') = refl
status_once law words m _ _ _ _ gave gave' (no_command none) (refuses reads fault c is has first) = absurd (none c (built_of c reads fault first.violates) is)
status_once law words m _ _ _ _ gave gave' (no_command none) (builds reads c outputs is built has sound good are) = absurd (none c built is)
status_once law words m _ _ _ _ gave gave' (refuses reads fault c is has first) (no_command none) = absurd (none c (built_of c reads fault first.violates) is)
status_once law words m _ _ _ _ gave gave' (refuses reads fault c is has first) (refuses reads' fault' c' is' has' first') = refl
status_once law words m _ _ _ _ gave gave' (refuses reads fault c is has first) (builds reads' d outputs is' built has' sound good are) =
    absurd (not_both words m c d reads reads' fault is is' built gave gave' has has' first.violates sound)
status_once law words m _ _ _ _ gave gave' (builds reads c outputs is built has sound good are) (no_command none) = absurd (none c built is)
status_once law words m _ _ _ _ gave gave' (builds reads c outputs is built has sound good are) (refuses reads' fault d is' has' first) =
    absurd (not_both words m d c reads' reads fault is' is built gave' gave has' has first.violates sound)
status_once law words m _ _ _ _ gave gave' (builds reads c outputs is built has sound good are) (builds reads' d outputs' is' built' has' sound' good' are') = refl
status_once law words m _ _ _ _ gave gave' (no_command none) (samples number due is s) = absurd (none (Sample number) tt is)
status_once law words m _ _ _ _ gave gave' (samples number due is s) (no_command none) = absurd (none (Sample number) tt is)
status_once law words m _ _ _ _ gave gave' (refuses reads fault c is has first) (samples number due is' s) = absurd (no_sample_refuses words c number reads fault is is' first.violates)
status_once law words m _ _ _ _ gave gave' (samples number due is s) (refuses reads fault c is' has first) = absurd (no_sample_refuses words c number reads fault is' is first.violates)
status_once law words m _ _ _ _ gave gave' (builds reads c outputs is built has sound good are) (samples number due is' s) = absurd (no_sample_builds words c number reads is is' good)
status_once law words m _ _ _ _ gave gave' (samples number due is s) (builds reads c outputs is' built has sound good are) = absurd (no_sample_builds words c number reads is' is good)
status_once law words m _ _ _ _ gave gave' (samples number due is s) (samples number' due' is' s') =
    sample_once law number' due due' (subst (λ n. IsSampleDue n due) (same_number words number number' is is') s) s'
