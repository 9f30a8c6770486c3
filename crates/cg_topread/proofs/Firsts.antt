-- What is first in the clocks of a top.
use Rattle.std.proofs.Common.{◌≡◌, List, ◌++◌, Option, sym, ap, ◌∙◌}
use Rattle.std.specs.Prelude.{codes}
use Rattle.cg_finding.specs.Finding.{Finding, earlier, first_of}
use Rattle.cg_finding.proofs.Firsts.{first_of-append}
use Rattle.cg_hjson.specs.declared.tree.Tree.{Tree}
use Rattle.cg_hjson.specs.declared.tree.Member.{Member}
use Rattle.cg_keys.specs.Elements.{object_faults}
use Rattle.cg_keys.specs.Table.{Key}
use Rattle.cg_keys.specs.Values.{members_of}
use Rattle.cg_topread.specs.Listed.{clocks_faults, names_faults}
use Rattle.cg_topread.specs.Tables.{clocks_keys}

three : (A B C : List Finding) (a b c bc r : Option Finding) → a ≡ first_of A → b ≡ first_of B → c ≡ first_of C → bc ≡ earlier b c → r ≡ earlier a bc → r ≡ first_of (A ++ (B ++ C))
three A B C a b c bc r of_a of_b of_c of_bc of_r =
    of_r
    ∙ (λ i. earlier (of_a i) (of_bc i))
    ∙ (λ i. earlier (first_of A) (earlier (of_b i) (of_c i)))
    ∙ ap (earlier (first_of A)) (sym (first_of-append B C))
    ∙ sym (first_of-append A (B ++ C))

pub first_clock : (t : Tree) (rows : List Key) (ms : List Member) (a b c bc r : Option Finding) → rows ≡ clocks_keys → ms ≡ members_of t
    → a ≡ first_of (object_faults rows t) → b ≡ first_of (names_faults (codes "srcs") ms) → c ≡ first_of (names_faults (codes "derived_srcs") ms)
    → bc ≡ earlier b c → r ≡ earlier a bc → r ≡ first_of (clocks_faults t)
unfolding clocks_faults
first_clock t rows ms a b c bc r keys is of_a of_b of_c of_bc of_r =
    three (object_faults clocks_keys t) (names_faults (codes "srcs") (members_of t)) (names_faults (codes "derived_srcs") (members_of t)) a b c bc r
    (of_a ∙ ap (λ ks. first_of (object_faults ks t)) keys)
    (of_b ∙ ap (λ m. first_of (names_faults (codes "srcs") m)) is)
    (of_c ∙ ap (λ m. first_of (names_faults (codes "derived_srcs") m)) is)
    of_bc of_r
