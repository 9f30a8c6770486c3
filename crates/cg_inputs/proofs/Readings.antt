-- Whole inputs: each reads, and in one way.
use Rattle.std.proofs.Common.{◌≡◌, ℕ, suc, zero, ◌<◌, List, [], ◌∷◌, ◌++◌, length, length-append, refl, ap, sym, subst, ◌∙◌, arith}
use Rattle.cg_inputs.specs.Input.{Command, bytes_for, Begins, Reads, Stop, ended, false_line, short, Stops, HasReading}
use Rattle.cg_inputs.specs.Reading.{Next, command, at_end, at_false_line, at_short, next}
use Rattle.cg_inputs.proofs.Nexts.{next_command, next_end, next_none, next_short, Holds, next_holds}

-- what is computed where the commands stop
stop_next : Stop → Next
stop_next (ended rest) = at_end rest
stop_next false_line = at_false_line
stop_next short = at_short

stop_is : (cs : List ℕ) (x : Stop) → Stops cs x → next cs ≡ stop_next x
unfolding stop_next
stop_is cs (ended rest) s = next_end cs rest s
stop_is cs false_line s = next_none cs s
stop_is cs short s = next_short cs s

stop_once : (x y : Stop) → stop_next x ≡ stop_next y → x ≡ y
unfolding stop_next
stop_once (ended r) (ended s) e = cc
stop_once (ended r) false_line e = cc
stop_once (ended r) short e = cc
stop_once false_line (ended r) e = cc
stop_once false_line false_line e = refl
stop_once false_line short e = cc
stop_once short (ended r) e = cc
stop_once short false_line e = cc
stop_once short short e = refl

no_command : (x : Stop) (c : Command) (rest : List ℕ) → stop_next x ≡ command c rest → ⊥
unfolding stop_next
no_command (ended r) c rest e = cc
no_command false_line c rest e = cc
no_command short c rest e = cc

-- commands do not stop where one begins
apart : (cs more : List ℕ) (c : Command) (x : Stop) → Stops cs x → Begins cs c more → ⊥
apart cs more c x s b = no_command x c more (sym (stop_is cs x s) ∙ next_command cs c more b)

same_command : (c d : Command) (r s : List ℕ) → command c r ≡ command d s → (c ≡ d) × (r ≡ s)
same_command c d r s e = (cc, cc)

pub once : (cs : List ℕ) (a b : List Command) (r s : List ℕ) (x y : Stop) → Reads cs a r → Stops r x → Reads cs b s → Stops s y → (a ≡ b) × (r ≡ s) × (x ≡ y)
once cs [] [] r s x y ra sx rb sy =
    let same : r ≡ s = sym ra ∙ rb in
    (refl, same, stop_once x y (sym (stop_is r x sx) ∙ ap next same ∙ stop_is s y sy))
once cs [] (d ∷ b) r s x y ra sx rb sy = absurd (apart cs rb.0 d x (subst (λ t. Stops t x) (sym ra) sx) rb.1)
once cs (c ∷ a) [] r s x y ra sx rb sy = absurd (apart cs ra.0 c y (subst (λ t. Stops t y) (sym rb) sy) ra.1)
once cs (c ∷ a) (d ∷ b) r s x y ra sx rb sy =
    let e = same_command c d ra.0 rb.0 (sym (next_command cs c ra.0 ra.1) ∙ next_command cs d rb.0 rb.1) in
    let rest = once rb.0 a b r s x y (subst (λ t. Reads t a r) e.1 ra.2) sx rb.2 sy in
    (λ i. e.0 i ∷ rest.0 i, rest.1, rest.2)

-- an input reads in one way
pub reads_once : (cs : List ℕ) (a b : List Command) (x y : Stop) → HasReading cs a x → HasReading cs b y → (a ≡ b) × (x ≡ y)
reads_once cs a b x y h k = let e = once cs a b h.rest k.rest x y h.reads h.stops k.reads k.stops in (e.0, e.2)

-- fewer bytes stand behind a command
fewer : (cs rest : List ℕ) (c : Command) → Begins cs c rest → length rest < length cs
fewer cs rest c b = omega (arith, ap length b.is, length-append b.text (10 ∷ (bytes_for c ++ rest)), length-append (bytes_for c) rest)

any : (n : ℕ) (cs : List ℕ) → length cs < n → (commands : List Command) × (stop : Stop) × HasReading cs commands stop
any zero cs h = absurd (omega arith)
any (suc n) cs h = go (next cs) (next_holds cs) (λ rest less. any n rest (omega arith))
  where
    go : (x : Next) → Holds x cs → ((rest : List ℕ) → length rest < length cs → (commands : List Command) × (stop : Stop) × HasReading rest commands stop)
        → (commands : List Command) × (stop : Stop) × HasReading cs commands stop
    go (command c rest) b again =
        let k = again rest (fewer cs rest c b) in
        (c ∷ k.0, k.1, record { rest = k.2.rest; reads = (rest, b, k.2.reads); stops = k.2.stops })
    go (at_end rest) e again = ([], ended rest, record { rest = cs; reads = refl; stops = e })
    go at_false_line e again = ([], false_line, record { rest = cs; reads = refl; stops = e })
    go at_short e again = ([], short, record { rest = cs; reads = refl; stops = e })

-- every input reads
pub reads_any : (cs : List ℕ) → (commands : List Command) × (stop : Stop) × HasReading cs commands stop
reads_any cs = any (suc (length cs)) cs (omega arith)
