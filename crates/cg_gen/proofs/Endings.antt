-- How a run ends where its parts end so.
use Rattle.std.proofs.Common.{◌≡◌, ◌<◌, ℕ, ◌+◌, List, refl, sym, ap, ◌∙◌, subst, inl, inr, arith}
use Rattle.cg_deeds.specs.declared.deed.Stream.TheVariants.{Out, Err}
use Rattle.cg_deeds.specs.declared.deed.Deed.{Deed}
use Rattle.cg_deeds.specs.declared.deed.Deed.TheVariants.{Write, Remove, Say}
use Rattle.cg_gen.specs.declared.due.Due.{Due}
use Rattle.cg_gen.specs.declared.due.Status.{Status}
use Rattle.cg_gen.specs.declared.due.Status.TheVariants.{Built, Refused, NoCommand}
use Rattle.cg_gen.specs.declared.ending.Ending.{Ending}
use Rattle.cg_gen.specs.declared.ending.Ending.TheVariants.{Done, ReadFailed, WriteFailed, Memory}
use Rattle.cg_deeds.specs.Outside.{World, Calm}
use Rattle.cg_deeds.specs.Deeds.{FaultRose}
use Rattle.cg_gen.specs.Reads.{Read, GaveAll}
use Rattle.cg_gen.specs.Run.{FindsIn, Performs, ReadFails, WriteFails, MemoryUnfound, Ends, Completes, RunsOnFiles, number_of, code_of}
use Rattle.cg_gen.specs.Inner.{PerformEnds}
use Rattle.cg_gen.specs.Meaning.{WritesMeaning}
use Rattle.cg_keep.specs.Laws.{BuiltBreaksNothing}
use Rattle.cg_gen.proofs.Once.{status_once}

-- what was due was done, or one of its deeds was not
pub performed : (e : Ending) (words : List (List ℕ)) (before after : World) (reads : List Read) (due : Due) → FindsIn words before after reads due
    → PerformEnds e due before.outlets after.outlets → Ends e words before after
performed (Done status) words before after reads due finds p = record { reads = reads; due = due; finds = finds; is_status = p.0; is_done = p.1 }
performed ReadFailed words before after reads due finds p = absurd p
performed WriteFailed words before after reads due finds p =
    record { reads = reads; due = due; finds = finds; deed = p.0; stopped = p.1; rose = p.2 }
performed Memory words before after reads due finds p = inr (record { reads = reads; due = due; finds = finds; deed = p.0; stopped = p.1 })

-- ---- completeness

calm_deed : (deed : Deed) (before after : World) → Calm before after → FaultRose deed before.outlets after.outlets → ⊥
calm_deed (Write name bytes) before after calm rose = calm.changes rose
calm_deed (Remove name) before after calm rose = calm.changes rose
calm_deed (Say Out line) before after calm rose = calm.out rose
calm_deed (Say Err line) before after calm rose = calm.err rose

pub completed : BuiltBreaksNothing → (e : Ending) (words : List (List ℕ)) (before after : World) → Ends e words before after → Completes (code_of e) words before after
completed law (Done status) words before after p calm m told reads due gave is =
    let gave' = subst (λ files. GaveAll files p.reads) told p.finds.gave in
    inl (ap number_of (sym p.is_status ∙ status_once law words m p.reads reads p.due due gave' gave p.finds.is_due is))
completed law ReadFailed words before after p calm m told reads due gave is = absurd (calm.reads p.fails.rose)
completed law WriteFailed words before after p calm m told reads due gave is = absurd (calm_deed p.deed before after calm p.rose)
completed law Memory words before after p calm m told reads due gave is = inr refl

-- ---- by the number of the status

performs : (e : Ending) (status : Status) (words : List (List ℕ)) (before after : World) → Ends e words before after → code_of e ≡ number_of status → Performs status words before after
performs (Done Built) Built words before after p e = p
performs (Done Refused) Refused words before after p e = p
performs (Done NoCommand) NoCommand words before after p e = p
performs (Done Built) Refused words before after p e = absurd (let bad : ◌≡◌ {A = ℕ} 0 1 = e in cc)
performs (Done Built) NoCommand words before after p e = absurd (let bad : ◌≡◌ {A = ℕ} 0 2 = e in cc)
performs (Done Refused) Built words before after p e = absurd (let bad : ◌≡◌ {A = ℕ} 1 0 = e in cc)
performs (Done Refused) NoCommand words before after p e = absurd (let bad : ◌≡◌ {A = ℕ} 1 2 = e in cc)
performs (Done NoCommand) Built words before after p e = absurd (let bad : ◌≡◌ {A = ℕ} 2 0 = e in cc)
performs (Done NoCommand) Refused words before after p e = absurd (let bad : ◌≡◌ {A = ℕ} 2 1 = e in cc)
performs ReadFailed Built words before after p e = absurd (let bad : ◌≡◌ {A = ℕ} 3 0 = e in cc)
performs ReadFailed Refused words before after p e = absurd (let bad : ◌≡◌ {A = ℕ} 3 1 = e in cc)
performs ReadFailed NoCommand words before after p e = absurd (let bad : ◌≡◌ {A = ℕ} 3 2 = e in cc)
performs WriteFailed Built words before after p e = absurd (let bad : ◌≡◌ {A = ℕ} 4 0 = e in cc)
performs WriteFailed Refused words before after p e = absurd (let bad : ◌≡◌ {A = ℕ} 4 1 = e in cc)
performs WriteFailed NoCommand words before after p e = absurd (let bad : ◌≡◌ {A = ℕ} 4 2 = e in cc)
performs Memory Built words before after p e = absurd (let bad : ◌≡◌ {A = ℕ} 5 0 = e in cc)
performs Memory Refused words before after p e = absurd (let bad : ◌≡◌ {A = ℕ} 5 1 = e in cc)
performs Memory NoCommand words before after p e = absurd (let bad : ◌≡◌ {A = ℕ} 5 2 = e in cc)

-- a run that did what was due has none of the other numbers
not_done : (status : Status) (n : ℕ) → number_of status ≡ n + 3 → ⊥
not_done Built n e = absurd (omega (arith, e))
not_done Refused n e = absurd (omega (arith, e))
not_done NoCommand n e = absurd (omega (arith, e))

read_fails : (e : Ending) (words : List (List ℕ)) (before after : World) → Ends e words before after → code_of e ≡ 3 → ReadFails words before after
read_fails (Done status) words before after p e = absurd (not_done status 0 e)
read_fails ReadFailed words before after p e = p
read_fails WriteFailed words before after p e = absurd (let bad : ◌≡◌ {A = ℕ} 4 3 = e in cc)
read_fails Memory words before after p e = absurd (let bad : ◌≡◌ {A = ℕ} 5 3 = e in cc)

write_fails : (e : Ending) (words : List (List ℕ)) (before after : World) → Ends e words before after → code_of e ≡ 4 → WriteFails words before after
write_fails (Done status) words before after p e = absurd (not_done status 1 e)
write_fails ReadFailed words before after p e = absurd (let bad : ◌≡◌ {A = ℕ} 3 4 = e in cc)
write_fails WriteFailed words before after p e = p
write_fails Memory words before after p e = absurd (let bad : ◌≡◌ {A = ℕ} 5 4 = e in cc)

memory_unfound : (e : Ending) (words : List (List ℕ)) (before after : World) → Ends e words before after → code_of e ≡ 5 → MemoryUnfound words before after
memory_unfound (Done status) words before after p e = absurd (not_done status 2 e)
memory_unfound ReadFailed words before after p e = absurd (let bad : ◌≡◌ {A = ℕ} 3 5 = e in cc)
memory_unfound WriteFailed words before after p e = absurd (let bad : ◌≡◌ {A = ℕ} 4 5 = e in cc)
memory_unfound Memory words before after p e = p

small : (e : Ending) → code_of e < 6
small (Done Built) = omega arith
small (Done Refused) = omega arith
small (Done NoCommand) = omega arith
small ReadFailed = omega arith
small WriteFailed = omega arith
small Memory = omega arith

-- all that is said of a run
pub ended : BuiltBreaksNothing → (e : Ending) (status : ℕ) (words : List (List ℕ)) (before after : World) → Ends e words before after → after.left ≡ before.left → status ≡ code_of e
    → (Performs Built words before after → WritesMeaning words before after) → RunsOnFiles status words before after
ended law e status words before after ends left is means = record {
  range = subst (λ n. n < 6) (sym is) (small e);
  done = λ s. performs e Built words before after ends (sym is ∙ s);
  refused = λ s. performs e Refused words before after ends (sym is ∙ s);
  no_command = λ s. performs e NoCommand words before after ends (sym is ∙ s);
  read_failed = λ s. read_fails e words before after ends (sym is ∙ s);
  write_failed = λ s. write_fails e words before after ends (sym is ∙ s);
  memory = λ s. memory_unfound e words before after ends (sym is ∙ s);
  complete = subst (λ n. Completes n words before after) (sym is) (completed law e words before after ends);
  meaning = λ s. means (performs e Built words before after ends (sym is ∙ s));
  input_left = left;
}
