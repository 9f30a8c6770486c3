use Rattle.std.proofs.Common.{◌≡◌, ◌-◌, ◌++◌, ◌∷◌, [], ap, arith, length, length-append, rules}
use Rattle.cg_session.proofs.Takes.{then_some}
use Rattle.cg_session.proofs.Gots.{put_whole, put_less, put_over, no_memory, rose_before}
use Rattle.cg_session.proofs.command.put_bytes.Goals as goal

pub returns-in_err-read_bytes : goal.returns-in_err-read_bytes
returns-in_err-read_bytes g c = λ first f t l.
    no_memory c.from_residual-in_err-read_bytes.result _ _ _ _ _ _ c.from_residual-in_err-read_bytes.ensures.0 (then_some _ c.args.room.now first _ _ (c.args.text.now ++ 10 ∷ []) f _ _ t l (omega (arith, length-append c.args.text.now (10 ∷ []))) c.in_err-read_bytes.ensures)

pub returns-in-Whole : goal.returns-in-Whole
returns-in-Whole g c = λ first f t l.
    let n : c.len.result ≡ length c.read_bytes.new.bytes.items = search rules in
    put_whole c.args.text.now c.args.name.now c.args.count c.args.room.now first _ _ f _ _ c.requires t l _ c.read_bytes.new.bytes.items _ _ c.in_ok-name.ensures c.from_vec.ensures (ap (λ n. c.args.room.now - n) n) (rw c.in-Whole.is at c.in_ok-read_bytes.ensures)

pub returns-in-Ended : goal.returns-in-Ended
returns-in-Ended g c = λ first f t l.
    let a = rw c.in-Ended.is at c.in_ok-read_bytes.ensures in
    (put_less c.args.text.now c.args.name.now c.args.count c.args.room.now first _ _ f _ _ c.requires t l _ a.0, a.1)

pub returns-in-Full : goal.returns-in-Full
returns-in-Full g c = λ first f t l.
    put_over c.args.text.now c.args.name.now c.args.count c.args.room.now first _ _ f _ _ c.requires t l _ (rw c.in-Full.is at c.in_ok-read_bytes.ensures)

pub returns-in-Failed : goal.returns-in-Failed
returns-in-Failed g c = λ first f t l.
    let a = rw c.in-Failed.is at c.in_ok-read_bytes.ensures in
    (put_less c.args.text.now c.args.name.now c.args.count c.args.room.now first _ _ f _ _ c.requires t l _ a.0, rose_before f _ _ l a.1)
