-- Which connections bring the requests of a device interface is decided, and each has the register module of a block's interface.
use Rattle.std.proofs.Common.{Bool, List, None, Option, Some, [], ap, arith, codes, cond, false, inl, inr, length, map, refl, slice_get, subst, suc, sym, true, ℕ, ◌++◌, ◌∙◌, ◌∷◌, ◌≡◌, ◌⊎◌}
use Rattle.std.specs.Str.{bytes_eq}
use Rattle.cg_busspec.specs.CrossbarModule.{halvings}
use Rattle.cg_desc.proofs.Numbered.{item_among}
use Rattle.cg_desc.specs.Merged.{IsMerged}
use Rattle.cg_desc.specs.declared.block.LaidFace.{LaidFace}
use Rattle.cg_regspec.specs.Meaning.{RegisterMeans}
use Rattle.cg_svspec.proofs.NamesLemmas.{same_name}
use Rattle.cg_svspec.specs.Names.{Among}
use Rattle.cg_svspec.specs.Tree.{Connection, Expression, Module, Parameter, inst, lit}
use Rattle.cg_svspec.specs.Value.{parameter_at}
use Rattle.cg_svspec.specs.Walk.{IsFace, Reached, address_width_name, interface_of, module_named, register_name}
use Rattle.cg_topspec.proofs.Built.{Built, HasFace, HasRegisters, crossbar_connections, crossbar_entry, instance_connections, instance_entry, top_entries, top_module, top_nets}
use Rattle.cg_topspec.proofs.Entries.{nets_all}
use Rattle.cg_topspec.proofs.ListLemmas.{from_counting, from_map, in_parts}
use Rattle.cg_topspec.proofs.Registers.{has_registers, width_name_tells}
use Rattle.cg_topspec.proofs.TopFaces.{log_is, parameter_found, width_in}
use Rattle.cg_topspec.proofs.TopLinks.{some_same}
use Rattle.cg_topspec.proofs.Whole.{entries_of_top}
use Rattle.cg_topspec.specs.Modules.{HasModules}
use Rattle.cg_topspec.specs.Select.{InterfaceAt}
use Rattle.cg_topspec.specs.Top.{block_of, crossbar_numbers, crossbar_of, instance_numbers, instance_of}
use Rattle.cg_topspec.specs.TopModule.{address_width, crossbar_module_name, top_instances}

-- ---- an instance with the parameter of an interface

-- an instance of this module with these parameters is of a block that has the interface
pub record OfBlock (top : Built) (part : List ℕ) (parameters : List Parameter) (interface : Option (List ℕ)) : Type 0 where
  pub instance : ℕ
  pub number : ℕ
  pub has : HasFace top.merged instance number
  pub part_is : part ≡ (block_of top.merged instance).desc.name
  pub parameters_are : parameters ≡ map address_width (block_of top.merged instance).faces
  pub interface_is : has.face.name ≡ interface

-- the interface whose parameter is there
face_of_parameter : (faces : List LaidFace) (o : Option (List ℕ)) (v : Expression) → parameter_at (address_width_name o) (map address_width faces) ≡ Some v
    → (f : ℕ) × (face : LaidFace) × (slice_get faces f ≡ Some face) × (face.name ≡ o)
face_of_parameter [] o v e = absurd cc
face_of_parameter (face ∷ faces) o v e = by (face_of_parameter faces o v) (bytes_eq (address_width_name face.name) (address_width_name o)) refl e where
  by : (parameter_at (address_width_name o) (map address_width faces) ≡ Some v → (f : ℕ) × (g : LaidFace) × (slice_get faces f ≡ Some g) × (g.name ≡ o))
      → (b : Bool) → bytes_eq (address_width_name face.name) (address_width_name o) ≡ b
      → cond b (Some (address_width face).value) (parameter_at (address_width_name o) (map address_width faces)) ≡ Some v
      → (f : ℕ) × (g : LaidFace) × (slice_get (face ∷ faces) f ≡ Some g) × (g.name ≡ o)
  by again true same found = (0, face, refl, width_name_tells face.name o (same_name (address_width_name face.name) (address_width_name o) same))
  by again false same found = let rest = again found in (suc rest.0, rest.1, rest.2, rest.3)

-- the parts of one instance
pub record SameParts (m n : List ℕ) (ps qs : List Parameter) (k l : List ℕ) (cs ds : List Connection) : Type 0 where
  pub part : m ≡ n
  pub parameters : ps ≡ qs
  pub connections : cs ≡ ds

pub same_parts : (m n : List ℕ) (ps qs : List Parameter) (k l : List ℕ) (cs ds : List Connection) → inst m ps k cs ≡ inst n qs l ds
    → SameParts m n ps qs k l cs ds
same_parts m n ps qs k l cs ds e = record { part = cc; parameters = cc; connections = cc }

module _ (top : Built) (part : List ℕ) (parameters : List Parameter) (name : List ℕ) (connections : List Connection) (interface : Option (List ℕ))
    (v : Expression)
    (found : parameter_at (address_width_name interface) parameters ≡ Some v) where
  in_nets_never : Among (inst part parameters name connections) (top_nets top) → ⊥
  in_nets_never a =
      nets_all (λ e. inst part parameters name connections ≡ e → ⊥) (λ w n e. cc) (λ w n x e. cc) (λ n x e. cc) top
      (inst part parameters name connections) a refl

  of_instances : Among (inst part parameters name connections) (map (instance_entry top) (instance_numbers top.merged)) → OfBlock top part parameters interface
  of_instances a =
      let from = from_map (instance_entry top) (instance_numbers top.merged) (inst part parameters name connections) a in
      let range = from_counting 0 (length top.merged.top.insts) from.0 from.1 in
      let block = block_of top.merged from.0 in
      let same : SameParts part block.desc.name parameters (map address_width block.faces) name
      (codes "u_" ++ (instance_of top.merged from.0).name) connections (instance_connections top from.0) =
      same_parts part block.desc.name parameters (map address_width block.faces) name (codes "u_" ++ (instance_of top.merged from.0).name) connections
      (instance_connections top from.0) from.2 in
      let face = face_of_parameter block.faces interface v (subst (λ ps. parameter_at (address_width_name interface) ps ≡ Some v) same.parameters found) in
      record {
        instance = from.0;
        number = face.0;
        has = record { face = face.1; instance_there = omega (arith, range.1); face_is = face.2 };
        part_is = same.part;
        parameters_are = same.parameters;
        interface_is = face.3;
      }

  of_crossbars : Among (inst part parameters name connections) (map (crossbar_entry top) (crossbar_numbers top.merged)) → OfBlock top part parameters interface
  of_crossbars a =
      let from = from_map (crossbar_entry top) (crossbar_numbers top.merged) (inst part parameters name connections) a in
      let same : SameParts part (crossbar_module_name top.merged from.0) parameters [] name
      (codes "u_xbar_" ++ (crossbar_of top.merged from.0).name) connections (crossbar_connections top from.0) =
      same_parts part (crossbar_module_name top.merged from.0) parameters [] name (codes "u_xbar_" ++ (crossbar_of top.merged from.0).name) connections
      (crossbar_connections top from.0) from.2 in
      let nothing : parameter_at (address_width_name interface) [] ≡ Some v = subst (λ ps. parameter_at
      (address_width_name interface) ps ≡ Some v) same.parameters found in
      absurd (missing_parameter nothing)
    where
      missing_parameter : None ≡ Some v → ⊥
      missing_parameter e = cc

  pub of_block : Among (inst part parameters name connections) (top_entries top) → OfBlock top part parameters interface
  of_block a = by (in_parts (inst part parameters name connections) (top_nets top) (top_instances top.merged top.ties) a) where
    later : Among (inst part parameters name connections) (map (instance_entry top) (instance_numbers top.merged)) ⊎ Among
        (inst part parameters name connections) (map (crossbar_entry top) (crossbar_numbers top.merged))
        → OfBlock top part parameters interface
    later (inl b) = of_instances b
    later (inr b) = of_crossbars b

    by : Among (inst part parameters name connections) (top_nets top) ⊎ Among (inst part parameters name connections) (top_instances top.merged top.ties)
        → OfBlock top part parameters interface
    by (inl b) = absurd (in_nets_never b)
    by (inr b) =
        later (in_parts (inst part parameters name connections) (map (instance_entry top) (instance_numbers top.merged))
        (map (crossbar_entry top) (crossbar_numbers top.merged)) b)

-- ---- the register module of an interface

module _ (top : Built) (merged : IsMerged top.merged) (ms : List Module) (has : HasModules top.merged (top_module top ∷ ms)) where
  registers : HasRegisters top ms
  registers = has_registers top merged ms has

  -- the interface of the block stands behind the connection
  face_here : (r : Reached) → OfBlock top r.part r.parameters r.interface → IsFace (top_module top ∷ ms) r
  face_here r b =
      let reg = registers b.instance b.number b.has in
      let found : parameter_at (address_width_name b.has.face.name) (map address_width (block_of top.merged b.instance).faces) ≡ Some (lit 0 reg.bits) =
      parameter_found (map address_width (block_of top.merged b.instance).faces) reg.parameters_differ (address_width b.has.face)
      (width_in (block_of top.merged b.instance).faces b.number b.has.face b.has.face_is)
      ∙ ap (λ k. Some (lit 0 k)) (ap (halvings 32) reg.size_is ∙ log_is 32 reg.bits reg.few) in
      record {
        registers = reg.registers;
        found = rw (b.part_is, sym b.interface_is) reg.named;
        is_register = reg.means.is_register;
        width = reg.bits;
        width_is = rw (b.parameters_are, sym b.interface_is) found;
        some = reg.some;
        few = reg.few;
      }

  -- whether an instance has the interface is decided
  pub face_or_not : (r : Reached) (name : List ℕ) → Among (inst r.part r.parameters name r.connections) (top_entries top)
      → IsFace (top_module top ∷ ms) r ⊎ (IsFace (top_module top ∷ ms) r → ⊥)
  face_or_not r name a = by (parameter_at (address_width_name r.interface) r.parameters) refl where
    by : (o : Option Expression) → parameter_at (address_width_name r.interface) r.parameters ≡ o
        → IsFace (top_module top ∷ ms) r ⊎ (IsFace (top_module top ∷ ms) r → ⊥)
    by None e = inr (λ f. let both : None ≡ Some (lit 0 f.width) = sym e ∙ f.width_is in absurd cc)
    by (Some v) e = inl (face_here r (of_block top r.part r.parameters name r.connections r.interface v e a))

  -- the register module there acts as a block's interface
  pub record Acts (registers : Module) : Type 0 where
    pub module_name : List ℕ
    pub face : LaidFace
    pub means : RegisterMeans module_name registers face

  pub interface_acts : (i j : ℕ) (f : InterfaceAt (top_module top) ms i j) → Acts f.is_face.registers
  interface_acts i j f =
      let entry : slice_get (top_entries top) i ≡ Some (inst f.part f.parameters f.name f.connections) = subst (λ es. slice_get es i ≡ Some
      (inst f.part f.parameters f.name f.connections)) (entries_of_top top) f.entry_is in
      let b = of_block top f.part f.parameters f.name f.connections f.interface (lit 0 f.is_face.width) f.is_face.width_is
      (item_among (top_entries top) i (inst f.part f.parameters f.name f.connections) entry) in
      let reg = registers b.instance b.number b.has in
      let named : module_named (top_module top ∷ ms) (register_name f.part f.interface) ≡ Some reg.registers =
      ap (λ p. module_named (top_module top ∷ ms) (register_name p f.interface)) b.part_is
      ∙ (ap (λ o. module_named (top_module top ∷ ms) (register_name (block_of top.merged b.instance).desc.name o)) (sym b.interface_is) ∙ reg.named) in
      let same : reg.registers ≡ f.is_face.registers = some_same reg.registers f.is_face.registers (sym named ∙ f.is_face.found) in
      record {
        module_name = register_name (block_of top.merged b.instance).desc.name b.has.face.name;
        face = b.has.face;
        means = subst (λ r. RegisterMeans (register_name (block_of top.merged b.instance).desc.name b.has.face.name) r b.has.face) same reg.means;
      }

-- ---- one interface at a connection

-- two interfaces at one connection have one register module and one width
pub record SameInterface (first : Module) (ms : List Module) (i j : ℕ) (f g : InterfaceAt first ms i j) : Type 0 where
  pub registers : f.is_face.registers ≡ g.is_face.registers
  pub width : f.is_face.width ≡ g.is_face.width

literal_value : (a b : ℕ) → Some (lit 0 a) ≡ Some (lit 0 b) → a ≡ b
literal_value a b e = cc

pub same_interface : (first : Module) (ms : List Module) (i j : ℕ) (f g : InterfaceAt first ms i j) → SameInterface first ms i j f g
same_interface first ms i j f g =
    let parts : SameParts f.part g.part f.parameters g.parameters f.name g.name f.connections g.connections =
    same_parts f.part g.part f.parameters g.parameters f.name g.name f.connections g.connections (some_same _ _ (sym f.entry_is ∙ g.entry_is)) in
    let at : f.at ≡ g.at = some_same f.at g.at (sym f.connection_is ∙ (ap (λ cs. slice_get cs j) parts.connections ∙ g.connection_is)) in
    let interface : f.interface ≡ g.interface = some_same f.interface g.interface
    (sym f.interface_is ∙ (ap (λ (c : Connection). interface_of c.name) at ∙ g.interface_is)) in
    let name : register_name f.part f.interface ≡ register_name g.part g.interface = rw (parts.part, interface) refl in
    let parameter : parameter_at (address_width_name f.interface) f.parameters ≡ parameter_at
    (address_width_name g.interface) g.parameters = rw (parts.parameters, interface) refl in
    record {
      registers = some_same f.is_face.registers g.is_face.registers (sym f.is_face.found ∙ (ap (module_named (first ∷ ms)) name ∙ g.is_face.found));
      width = literal_value f.is_face.width g.is_face.width (sym f.is_face.width_is ∙ (parameter ∙ g.is_face.width_is));
    }
