-- The findings of a table are exactly its violations.
use Rattle.std.proofs.Common.{◌≡◌, List, Option, Some, None, inl, inr, refl}
use Rattle.cg_desc.specs.declared.place.At.{At}
use Rattle.cg_finding.specs.Finding.{Among, Finding, In, finding}
use Rattle.cg_finding.proofs.Members.{flat_map_has, in_flat_map, in_unless, in_when, unless_has, when_has}
use Rattle.cg_hjson.specs.declared.tree.Tree.{Tree}
use Rattle.cg_hjson.specs.declared.tree.Member.{Member}
use Rattle.cg_keys.specs.Forms.{fits_one, rule_broken}
use Rattle.cg_keys.specs.Table.{Key, at_key, key_faults, table_faults, value_at, value_faults}
use Rattle.cg_keys.specs.Violations.{BreaksTable}

-- a finding at one key breaks the table, by the value at the key
breaks_at_key : (opener : At) (ms : List Member) (ks : List Key) (k : Key) (f : Finding) (value : Option Tree)
    → value_at k.key ms ≡ value → Among k ks → In f (at_key opener k value) → BreaksTable opener ms ks f
unfolding value_faults
breaks_at_key opener ms ks k f None absent listed among = let when = in_when k.needed f (finding 2 21 opener k.key) among in
    inl (record { row = k; listed = listed; needed = when.0; absent = absent; says = when.1 })
breaks_at_key opener ms ks k f (Some t) there listed among = let unless = in_unless (fits_one k.forms t) f (finding 2 (rule_broken k.forms t) t.at k.key) among in
    inr (record { row = k; value = t; listed = listed; there = there; unfit = unless.0; says = unless.1 })

-- each of a table's findings breaks the table
pub in_table_faults : (opener : At) (ms : List Member) (ks : List Key) (f : Finding) → In f (table_faults opener ms ks) → BreaksTable opener ms ks f
unfolding key_faults
in_table_faults opener ms ks f among = let one = in_flat_map (key_faults opener ms) ks f among in
    breaks_at_key opener ms ks one.item f _ refl one.among one.found

-- what breaks a table is one of its findings
pub table_faults_has : (opener : At) (ms : List Member) (ks : List Key) (f : Finding) → BreaksTable opener ms ks f → In f (table_faults opener ms ks)
unfolding key_faults value_faults
table_faults_has opener ms ks f (inl b) =
    flat_map_has (key_faults opener ms) ks b.row f b.listed
    (rw b.absent (when_has b.row.needed f (finding 2 21 opener b.row.key) b.needed b.says))
table_faults_has opener ms ks f (inr b) =
    flat_map_has (key_faults opener ms) ks b.row f b.listed
    (rw b.there (unless_has (fits_one b.row.forms b.value) f (finding 2 (rule_broken b.row.forms b.value) b.value.at b.row.key) b.unfit b.says))
