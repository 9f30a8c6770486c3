-- Whether a connection of a top's module brings the requests of a device interface is decided.
use Rattle.std.proofs.Common.{List, None, Option, Some, ap, inl, inr, refl, slice_get, subst, sym, ℕ, ◌∙◌, ◌∷◌, ◌≡◌, ◌⊎◌}
use Rattle.cg_desc.proofs.Numbered.{item_among}
use Rattle.cg_desc.specs.Merged.{IsMerged}
use Rattle.cg_svspec.specs.Tree.{Connection, Entry, Module, Parameter, assign, drive, inst, wire}
use Rattle.cg_svspec.specs.Walk.{IsFace, interface_of, module_named}
use Rattle.cg_topspec.proofs.Built.{Built, top_entries, top_module}
use Rattle.cg_topspec.proofs.FoundInterfaces.{SameParts, face_or_not, same_parts}
use Rattle.cg_topspec.proofs.TopLinks.{some_same}
use Rattle.cg_topspec.proofs.Whole.{entries_of_top}
use Rattle.cg_topspec.specs.Modules.{HasModules}
use Rattle.cg_topspec.specs.Select.{InterfaceAt}

module _ (top : Built) (merged : IsMerged top.merged) (ms : List Module) (has : HasModules top.merged (top_module top ∷ ms)) where
  -- whether connection j of entry i brings the requests of an interface is decided
  pub interface_or_not : (i j : ℕ) → InterfaceAt (top_module top) ms i j ⊎ (InterfaceAt (top_module top) ms i j → ⊥)
  interface_or_not i j = by_entry (slice_get (top_entries top) i) refl where
    entry_of : (f : InterfaceAt (top_module top) ms i j) → slice_get (top_entries top) i ≡ Some (inst f.part f.parameters f.name f.connections)
    entry_of f = subst (λ es. slice_get es i ≡ Some (inst f.part f.parameters f.name f.connections)) (entries_of_top top) f.entry_is

    -- the parts of an interface's instance are those of the entry
    parts_of : (f : InterfaceAt (top_module top) ms i j) (m : List ℕ) (ps : List Parameter) (n : List ℕ) (cs : List Connection)
        → slice_get (top_entries top) i ≡ Some (inst m ps n cs)
        → SameParts f.part m f.parameters ps f.name n f.connections cs
    parts_of f m ps n cs e = same_parts f.part m f.parameters ps f.name n f.connections cs (some_same _ _ (sym (entry_of f) ∙ e))

    no_instance_there : (e : Entry) → slice_get (top_entries top) i ≡ Some e
        → ((m : List ℕ) (ps : List Parameter) (n : List ℕ) (cs : List Connection) → e ≡ inst m ps n cs → ⊥) → InterfaceAt (top_module top) ms i j → ⊥
    no_instance_there e is other f = other f.part f.parameters f.name f.connections (some_same _ _ (sym is ∙ entry_of f))

    by_face : (m : List ℕ) (ps : List Parameter) (n : List ℕ) (cs : List Connection) (c : Connection) (o : Option (List ℕ))
        → slice_get (top_entries top) i ≡ Some (inst m ps n cs)
        → module_named (top_module top ∷ ms) m ≡ None → slice_get cs j ≡ Some c → interface_of c.name ≡ Some o
        → IsFace (top_module top ∷ ms) (record { part = m; parameters = ps; connections = cs; interface = o }) ⊎
        (IsFace (top_module top ∷ ms) (record { part = m; parameters = ps; connections = cs; interface = o }) → ⊥)
        → InterfaceAt (top_module top) ms i j ⊎ (InterfaceAt (top_module top) ms i j → ⊥)
    by_face m ps n cs c o entry none_named connection_is interface_is (inl meant) = inl (record {
      part = m;
      parameters = ps;
      name = n;
      connections = cs;
      interface = o;
      at = c;
      entry_is = subst (λ es. slice_get es i ≡ Some (inst m ps n cs)) (sym (entries_of_top top)) entry;
      no_module = none_named;
      connection_is = connection_is;
      interface_is = interface_is;
      is_face = meant;
    })
    by_face m ps n cs c o entry none_named connection_is interface_is (inr not) = inr (λ f.
        let parts = parts_of f m ps n cs entry in
        let at : f.at ≡ c = some_same f.at c (sym f.connection_is ∙ (ap (λ ds. slice_get ds j) parts.connections ∙ connection_is)) in
        let interface : f.interface ≡ o = some_same f.interface o (sym f.interface_is ∙ (ap (λ (d : Connection). interface_of d.name) at ∙ interface_is)) in
        not (reached_as f.part m f.parameters ps f.connections cs f.interface o parts.part parts.parameters parts.connections interface f.is_face))
      where
        reached_as : (a m : List ℕ) (b ps : List Parameter) (c cs : List Connection) (d o : Option (List ℕ)) → a ≡ m → b ≡ ps → c ≡ cs → d ≡ o
            → IsFace (top_module top ∷ ms) (record { part = a; parameters = b; connections = c; interface = d })
            → IsFace (top_module top ∷ ms) (record { part = m; parameters = ps; connections = cs; interface = o })
        reached_as a m b ps c cs d o p q r s is =
            subst (λ z. IsFace (top_module top ∷ ms) (record { part = m; parameters = ps; connections = cs; interface = z })) s
            (subst (λ z. IsFace (top_module top ∷ ms) (record { part = m; parameters = ps; connections = z; interface = d })) r
            (subst (λ z. IsFace (top_module top ∷ ms) (record { part = m; parameters = z; connections = c; interface = d })) q
            (subst (λ z. IsFace (top_module top ∷ ms) (record { part = z; parameters = b; connections = c; interface = d })) p is)))

    by_interface : (m : List ℕ) (ps : List Parameter) (n : List ℕ) (cs : List Connection) (c : Connection)
        → slice_get (top_entries top) i ≡ Some (inst m ps n cs) → module_named (top_module top ∷ ms) m ≡ None
        → slice_get cs j ≡ Some c → (o : Option (Option (List ℕ))) → interface_of c.name ≡ o
        → InterfaceAt (top_module top) ms i j ⊎ (InterfaceAt (top_module top) ms i j → ⊥)
    by_interface m ps n cs c entry none_named connection_is None e = inr (λ f.
        let parts = parts_of f m ps n cs entry in
        let at : f.at ≡ c = some_same f.at c (sym f.connection_is ∙ (ap (λ ds. slice_get ds j) parts.connections ∙ connection_is)) in
        some_or_none f.interface (sym f.interface_is ∙ (ap (λ (d : Connection). interface_of d.name) at ∙ e)))
      where
        some_or_none : (o : Option (List ℕ)) → Some o ≡ None → ⊥
        some_or_none o e = cc
    by_interface m ps n cs c entry none_named connection_is (Some o) e =
        by_face m ps n cs c o entry none_named connection_is e
        (face_or_not top merged ms has (record { part = m; parameters = ps; connections = cs; interface = o }) n
        (item_among (top_entries top) i (inst m ps n cs) entry))

    by_connection : (m : List ℕ) (ps : List Parameter) (n : List ℕ) (cs : List Connection) → slice_get (top_entries top) i ≡ Some (inst m ps n cs)
        → module_named (top_module top ∷ ms) m ≡ None
        → (o : Option Connection) → slice_get cs j ≡ o → InterfaceAt (top_module top) ms i j ⊎ (InterfaceAt (top_module top) ms i j → ⊥)
    by_connection m ps n cs entry none_named None e = inr (λ f.
        let parts = parts_of f m ps n cs entry in some_or_none f.at (sym f.connection_is ∙ (ap (λ ds. slice_get ds j) parts.connections ∙ e)))
      where
        some_or_none : (c : Connection) → Some c ≡ None → ⊥
        some_or_none c e = cc
    by_connection m ps n cs entry none_named (Some c) e = by_interface m ps n cs c entry none_named e (interface_of c.name) refl

    by_module : (m : List ℕ) (ps : List Parameter) (n : List ℕ) (cs : List Connection) → slice_get (top_entries top) i ≡ Some (inst m ps n cs)
        → (o : Option Module)
        → module_named (top_module top ∷ ms) m ≡ o → InterfaceAt (top_module top) ms i j ⊎ (InterfaceAt (top_module top) ms i j → ⊥)
    by_module m ps n cs entry (Some k) e = inr (λ f.
        let parts = parts_of f m ps n cs entry in some_or_none k (sym e ∙ (ap (module_named (top_module top ∷ ms)) (sym parts.part) ∙ f.no_module)))
      where
        some_or_none : (k : Module) → Some k ≡ None → ⊥
        some_or_none k e = cc
    by_module m ps n cs entry None e = by_connection m ps n cs entry e (slice_get cs j) refl

    by_entry : (o : Option Entry) → slice_get (top_entries top) i ≡ o → InterfaceAt (top_module top) ms i j ⊎ (InterfaceAt (top_module top) ms i j → ⊥)
    by_entry None e = inr (λ f. let both : None ≡ Some (inst f.part f.parameters f.name f.connections) = sym e ∙ entry_of f in absurd cc)
    by_entry (Some (wire w n)) e = inr (no_instance_there (wire w n) e (λ m ps k cs s. cc))
    by_entry (Some (drive w n x)) e = inr (no_instance_there (drive w n x) e (λ m ps k cs s. cc))
    by_entry (Some (assign n x)) e = inr (no_instance_there (assign n x) e (λ m ps k cs s. cc))
    by_entry (Some (inst m ps n cs)) e = by_module m ps n cs e (module_named (top_module top ∷ ms) m) refl
