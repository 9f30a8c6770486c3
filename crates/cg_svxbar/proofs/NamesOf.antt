-- A crossbar's module declares the same names whatever ranges count at its nodes.
use Rattle.std.proofs.Common.{◌≡◌, ℕ, List, [], ◌∷◌, ◌++◌, map, refl, ap, sym, ◌∙◌, Result, Ok, Err, IfOk}
use Rattle.cg_busspec.specs.Crossbar.{crossbar_of, hosts}
use Rattle.cg_busspec.specs.CrossbarModule.{crossbar_entries, crossbar_module, crossbar_parts, crossbar_ports, crossbar_selects, crossbar_wires, host_select, sel}
use Rattle.cg_desc.specs.declared.crossbar.NodeRanges.{NodeRanges}
use Rattle.cg_desc.specs.declared.crossbar.XbarDesc.{XbarDesc}
use Rattle.cg_svspec.specs.Names.{entry_names, module_names, port_names}
use Rattle.cg_svspec.specs.Tree.{Entry, wire, drive, assign, inst}

names_append : (es fs : List Entry) → entry_names (es ++ fs) ≡ entry_names es ++ entry_names fs
names_append [] fs = refl
names_append (wire w n ∷ es) fs = ap (λ z. n ∷ z) (names_append es fs)
names_append (drive w n x ∷ es) fs = ap (λ z. n ∷ z) (names_append es fs)
names_append (assign n x ∷ es) fs = names_append es fs
names_append (inst m ps n cs ∷ es) fs = ap (λ z. n ∷ z) (names_append es fs)

-- a select has the name of its host
select_names : (x : XbarDesc) (some others : List NodeRanges) (hs : List ℕ)
    → entry_names (map (host_select (crossbar_of x some)) hs) ≡ entry_names (map (host_select (crossbar_of x others)) hs)
select_names x some others [] = refl
select_names x some others (h ∷ hs) = ap (λ z. sel x h ∷ z) (select_names x some others hs)

entries_named : (x : XbarDesc) (some others : List NodeRanges)
    → entry_names (crossbar_entries (crossbar_of x some)) ≡ entry_names (crossbar_entries (crossbar_of x others))
unfolding crossbar_entries
entries_named x some others =
    names_append (crossbar_wires x) (crossbar_selects (crossbar_of x some) ++ crossbar_parts x)
    ∙ (ap (λ z. entry_names (crossbar_wires x) ++ z)
    (names_append (crossbar_selects (crossbar_of x some)) (crossbar_parts x)
    ∙ (ap (λ z. z ++ entry_names (crossbar_parts x)) (select_names x some others (hosts x))
    ∙ sym (names_append (crossbar_selects (crossbar_of x others)) (crossbar_parts x))))
    ∙ sym (names_append (crossbar_wires x) (crossbar_selects (crossbar_of x others) ++ crossbar_parts x)))

pub same_names : (x : XbarDesc) (some others : List NodeRanges)
    → module_names (crossbar_module (crossbar_of x some)) ≡ module_names (crossbar_module (crossbar_of x others))
unfolding crossbar_module
same_names x some others = ap (λ z. port_names (crossbar_ports x) ++ z) (entries_named x some others)

pub with_any_ranges : {E : Type 0} (x : XbarDesc) (result : Result (List (List ℕ)) E)
    → IfOk result (λ names. names ≡ module_names (crossbar_module (crossbar_of x [])))
    → (ranges : List NodeRanges) → IfOk result (λ names. names ≡ module_names (crossbar_module (crossbar_of x ranges)))
with_any_ranges x (Ok names) is ranges = is ∙ same_names x [] ranges
with_any_ranges x (Err e) is ranges = is
