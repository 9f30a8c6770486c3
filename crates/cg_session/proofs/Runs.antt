-- All that is said of a session, by its ending.
use Rattle.std.proofs.Common.{◌≡◌, ◌<◌, ℕ, zero, suc, List, refl, ap, sym, subst, ◌∙◌, arith}
use Rattle.cg_deeds.specs.Outside.{World}
use Rattle.cg_deeds.specs.Deeds.{Contents, contents}
use Rattle.cg_session.specs.Ends.{SessionEnds, code_of}
use Rattle.cg_session.specs.Laws.{SessionHolds}
use Rattle.cg_session.specs.Session.{DoneMeans, ReadsNoFile, SessionRuns}
use Rattle.cg_session.specs.declared.ending.Ending.{Ending}
use Rattle.cg_session.specs.declared.ending.Ending.TheVariants.{Good, Refused, NoCommand, ReadFailed, WriteFailed, Memory, TooLong}
use Rattle.cg_session.proofs.Deciding.{completes}

-- the ending with this number
ending_of : ℕ → Ending
ending_of zero = Good
ending_of (suc zero) = Refused
ending_of (suc (suc zero)) = NoCommand
ending_of (suc (suc (suc zero))) = ReadFailed
ending_of (suc (suc (suc (suc zero)))) = WriteFailed
ending_of (suc (suc (suc (suc (suc zero))))) = Memory
ending_of (suc (suc (suc (suc (suc (suc n)))))) = TooLong

back : (e : Ending) → ending_of (code_of e) ≡ e
unfolding ending_of
back Good = refl
back Refused = refl
back NoCommand = refl
back ReadFailed = refl
back WriteFailed = refl
back Memory = refl
back TooLong = refl

-- endings with one number are one
same_ending : (e f : Ending) → code_of e ≡ code_of f → e ≡ f
same_ending e f h = sym (back e) ∙ ap ending_of h ∙ back f

small : (e : Ending) → code_of e < 7
small Good = omega arith
small Refused = omega arith
small NoCommand = omega arith
small ReadFailed = omega arith
small WriteFailed = omega arith
small Memory = omega arith
small TooLong = omega arith

module _ (top dir : List ℕ) (before after : World) (e : Ending) (ends : SessionEnds e top dir before after) where
  as_ending : (f : Ending) → code_of e ≡ code_of f → SessionEnds f top dir before after
  as_ending f h = subst (λ x. SessionEnds x top dir before after) (same_ending e f h) ends

  -- what is done means what the law says
  done_means : SessionHolds → DoneMeans top dir before after
  done_means holds commands rest k d m told =
      let h = holds top dir commands k d.deeds d.has_taken.plays (contents before.outlets) m told in
      (h.0, ap (λ (c : Contents). c.files) d.done ∙ h.1.is, h.2, h.3)

  pub runs : SessionHolds → ReadsNoFile before after → SessionRuns (code_of e) top dir before after
  runs holds reads = record {
    range = small e;
    good = as_ending Good;
    refused = as_ending Refused;
    no_command = as_ending NoCommand;
    read_failed = as_ending ReadFailed;
    write_failed = as_ending WriteFailed;
    memory = as_ending Memory;
    too_long = as_ending TooLong;
    complete = completes top dir before after e ends;
    meaning = done_means holds;
    reads_no_file = reads;
  }
