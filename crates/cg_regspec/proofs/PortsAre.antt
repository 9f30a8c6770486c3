-- The ports of a register module are just those that its interface asks for.
use Rattle.std.proofs.Common.{◌≡◌, ℕ, Bool, true, false, List, [], ◌∷◌, ◌++◌, cond, refl, sym, subst, ◌∙◌, inl, inr}
use Rattle.cg_svspec.specs.Names.{Among, port_names, entry_names}
use Rattle.cg_svspec.specs.Printable.{AllOf}
use Rattle.cg_svspec.specs.Tree.{Port}
use Rattle.cg_svspec.specs.Register.{access_ports, input_port, output_port}
use Rattle.cg_svspec.specs.WellFormed.{WellFormed}
use Rattle.cg_svspec.proofs.NamesLemmas.{among_front, among_back, differ_front}
use Rattle.cg_svspec.proofs.Parts.{all_join}
use Rattle.cg_desc.specs.declared.block.FieldDesc.{FieldDesc}
use Rattle.cg_desc.specs.declared.block.RegDesc.{RegDesc}
use Rattle.cg_desc.specs.declared.block.WindowDesc.{WindowDesc}
use Rattle.cg_desc.specs.declared.block.Item.{Item}
use Rattle.cg_desc.specs.declared.block.Item.TheVariants.{Reg, Window, SkipTo, Reserved}
use Rattle.cg_desc.specs.declared.block.LaidRow.{LaidRow}
use Rattle.cg_desc.specs.declared.block.LaidFace.{LaidFace}
use Rattle.cg_regspec.specs.NetNames.{q_net, qe_net, re_net, d_net, de_net, update_error_net}
use Rattle.cg_regspec.specs.Ports.{FieldOf, RegisterOf, WindowOf, IsOutput, answer_data, answer_error, field_value, field_written, field_read, update_error, window_written, window_read, window_address, window_data, window_strobes}
use Rattle.cg_regspec.specs.Ports.{IsInput, clock, reset, access_write, access_read, access_address, access_data, access_strobes, hardware_value, hardware_strobe, hardware_word, HasPortsOf}
use Rattle.cg_regspec.specs.RegisterModule.{width_of, port_if, has_q, has_qe, has_re, has_d, has_de, has_shadow, field_ports, fields_ports, window_ports, item_ports, rows_ports, register_entries, register_module}
use Rattle.cg_regspec.proofs.Tables.{has_q_is, has_qe_is, has_re_is, has_d_is, has_de_is, has_shadow_is}

-- ---- each port is one of them

-- the interface asks for the port
abbrev IsPort : LaidFace → Port → Type 0
IsPort face p = cond p.input (IsInput face p.width p.name) (IsOutput face p.width p.name)

-- a port that is there where the test holds
if_there : (P : Port → Type 0) (b : Bool) (p : Port) → (b ≡ true → P p) → AllOf P (port_if b p)
if_there P true p is = (is refl, tt)
if_there P false p is = tt

-- the ports of a field
field_asks : (face : LaidFace) (r : RegDesc) (f : FieldDesc) → FieldOf face r f → AllOf (IsPort face) (field_ports r f)
field_asks face r f of =
    all_join (IsPort face) (port_if (has_q r f) _) _ (if_there (IsPort face) (has_q r f) (output_port (width_of f) (q_net r f)) (λ e. field_value r f of (sym (has_q_is r f) ∙ e)))
    (all_join (IsPort face) (port_if (has_qe r f) _) _ (if_there (IsPort face) (has_qe r f) (output_port 1 (qe_net r f)) (λ e. field_written r f of (sym (has_qe_is r f) ∙ e)))
    (all_join (IsPort face) (port_if (has_re r f) _) _ (if_there (IsPort face) (has_re r f) (output_port 1 (re_net r f)) (λ e. field_read r f of (sym (has_re_is r f) ∙ e)))
    (all_join (IsPort face) (port_if (has_d r f) _) _ (if_there (IsPort face) (has_d r f) (input_port (width_of f) (d_net r f)) (λ e. hardware_value r f of (sym (has_d_is r f) ∙ e)))
    (if_there (IsPort face) (has_de r f) (input_port 1 (de_net r f)) (λ e. hardware_strobe r f of (sym (has_de_is r f) ∙ e))))))

-- of some fields of a register
fields_ask : (face : LaidFace) (row : LaidRow) (r : RegDesc) (fs : List FieldDesc) → Among row face.rows → row.item ≡ Reg r → ((f : FieldDesc) → Among f fs → Among f r.fields)
    → AllOf (IsPort face) (fields_ports r fs)
fields_ask face row r [] there is all = tt
fields_ask face row r (f ∷ fs) there is all =
    all_join (IsPort face) (field_ports r f) (fields_ports r fs)
    (field_asks face r f (record { row = row; in_face = there; is_register = is; in_register = all f (inl refl) }))
    (fields_ask face row r fs there is (λ g a. all g (inr a)))

-- of an item
item_asks : (face : LaidFace) (row : LaidRow) (item : Item) → Among row face.rows → row.item ≡ item → AllOf (IsPort face) (item_ports item)
item_asks face row (Reg r) there is =
    all_join (IsPort face) (fields_ports r r.fields) (port_if (has_shadow r) (output_port 1 (update_error_net r))) (fields_ask face row r r.fields there is (λ f a. a))
    (if_there (IsPort face) (has_shadow r) (output_port 1 (update_error_net r))
    (λ e. update_error r (record { row = row; in_face = there; is_register = is }) (sym (has_shadow_is r) ∙ e)))
item_asks face row (Window w) there is =
    let of : WindowOf face w = record { row = row; in_face = there; is_window = is } in (
      window_written w of,
      (
        window_read w of,
        (
          window_address w of,
          (
            window_data w of,
            (window_strobes w of, (hardware_word w of, tt)),
          ),
        ),
      ),
    )
item_asks face row (SkipTo to at) there is = tt
item_asks face row (Reserved words at) there is = tt

-- of some rows of the interface
rows_ask : (face : LaidFace) (rows : List LaidRow) → ((row : LaidRow) → Among row rows → Among row face.rows) → AllOf (IsPort face) (rows_ports rows)
rows_ask face [] all = tt
rows_ask face (row ∷ rows) all =
    all_join (IsPort face) (item_ports row.item) (rows_ports rows) (item_asks face row row.item (all row (inl refl)) refl) (rows_ask face rows (λ other a. all other (inr a)))

-- the ports of the access
access_asks : (face : LaidFace) → AllOf (IsPort face) access_ports
access_asks face = (
  clock,
  (
    reset,
    (
      access_write,
      (
        access_read,
        (
          access_address,
          (
            access_data,
            (
              access_strobes,
              (answer_data, (answer_error, tt)),
            ),
          ),
        ),
      ),
    ),
  ),
)

-- what holds of all holds of one of them
of_all : {A : Type 0} (P : A → Type 0) (x : A) (xs : List A) → AllOf P xs → Among x xs → P x
of_all P x [] all among = absurd among
of_all P x (y ∷ ys) all (inl is) = subst P (sym is) all.0
of_all P x (y ∷ ys) all (inr there) = of_all P x ys all.1 there

-- ---- and each of them is a port

-- a port whose test holds
is_there : (b : Bool) (p : Port) → b ≡ true → Among p (port_if b p)
is_there true p e = inl refl
is_there false p e = cc

-- among the ports of a row's item
in_rows : (p : Port) (row : LaidRow) (rows : List LaidRow) → Among row rows → Among p (item_ports row.item) → Among p (rows_ports rows)
in_rows p row [] there here = absurd there
in_rows p row (x ∷ rows) (inl is) here = among_front p (item_ports x.item) (rows_ports rows) (subst (λ (y : LaidRow). Among p (item_ports y.item)) is here)
in_rows p row (x ∷ rows) (inr there) here = among_back p (item_ports x.item) (rows_ports rows) (in_rows p row rows there here)

-- among those of a field
in_fields : (p : Port) (r : RegDesc) (f : FieldDesc) (fs : List FieldDesc) → Among f fs → Among p (field_ports r f) → Among p (fields_ports r fs)
in_fields p r f [] there here = absurd there
in_fields p r f (g ∷ fs) (inl is) here = among_front p (field_ports r g) (fields_ports r fs) (subst (λ h. Among p (field_ports r h)) is here)
in_fields p r f (g ∷ fs) (inr there) here = among_back p (field_ports r g) (fields_ports r fs) (in_fields p r f fs there here)

-- a port of a field of the interface
of_field : (face : LaidFace) (p : Port) (r : RegDesc) (f : FieldDesc) → FieldOf face r f → Among p (field_ports r f) → Among p (access_ports ++ rows_ports face.rows)
of_field face p r f of here =
    among_back p access_ports (rows_ports face.rows) (in_rows p of.row face.rows of.in_face
    (subst (λ item. Among p (item_ports item)) (sym of.is_register)
    (among_front p (fields_ports r r.fields) (port_if (has_shadow r) (output_port 1 (update_error_net r))) (in_fields p r f r.fields of.in_register here))))

-- the update error of a register of it
of_register : (face : LaidFace) (r : RegDesc) → RegisterOf face r → has_shadow r ≡ true → Among (output_port 1 (update_error_net r)) (access_ports ++ rows_ports face.rows)
of_register face r of is =
    let p : Port = output_port 1 (update_error_net r) in
    among_back p access_ports (rows_ports face.rows) (in_rows p of.row face.rows of.in_face
    (subst (λ item. Among p (item_ports item)) (sym of.is_register) (among_back p (fields_ports r r.fields) (port_if (has_shadow r) p) (is_there (has_shadow r) p is))))

-- a port of a window of it
of_window : (face : LaidFace) (p : Port) (w : WindowDesc) → WindowOf face w → Among p (window_ports w) → Among p (access_ports ++ rows_ports face.rows)
of_window face p w of here =
    among_back p access_ports (rows_ports face.rows) (in_rows p of.row face.rows of.in_face (subst (λ item. Among p (item_ports item)) (sym of.is_window) here))

-- a port of the access
of_access : (face : LaidFace) (p : Port) → Among p access_ports → Among p (access_ports ++ rows_ports face.rows)
of_access face p here = among_front p access_ports (rows_ports face.rows) here

-- the five ports of a field, in their places
record FieldHas (r : RegDesc) (f : FieldDesc) : Type 0 where
  q : has_q r f ≡ true → Among (output_port (width_of f) (q_net r f)) (field_ports r f)
  qe : has_qe r f ≡ true → Among (output_port 1 (qe_net r f)) (field_ports r f)
  re : has_re r f ≡ true → Among (output_port 1 (re_net r f)) (field_ports r f)
  d : has_d r f ≡ true → Among (input_port (width_of f) (d_net r f)) (field_ports r f)
  de : has_de r f ≡ true → Among (input_port 1 (de_net r f)) (field_ports r f)

field_has : (r : RegDesc) (f : FieldDesc) → FieldHas r f
field_has r f =
    let q : List Port = port_if (has_q r f) (output_port (width_of f) (q_net r f)) in
    let qe : List Port = port_if (has_qe r f) (output_port 1 (qe_net r f)) in
    let re : List Port = port_if (has_re r f) (output_port 1 (re_net r f)) in
    let d : List Port = port_if (has_d r f) (input_port (width_of f) (d_net r f)) in
    let de : List Port = port_if (has_de r f) (input_port 1 (de_net r f)) in
    record {
      q = λ e. among_front _ q (qe ++ (re ++ (d ++ de))) (is_there (has_q r f) _ e);
      qe = λ e. among_back _ q (qe ++ (re ++ (d ++ de))) (among_front _ qe (re ++ (d ++ de)) (is_there (has_qe r f) _ e));
      re = λ e. among_back _ q (qe ++ (re ++ (d ++ de))) (among_back _ qe (re ++ (d ++ de)) (among_front _ re (d ++ de) (is_there (has_re r f) _ e)));
      d = λ e. among_back _ q (qe ++ (re ++ (d ++ de))) (among_back _ qe (re ++ (d ++ de)) (among_back _ re (d ++ de) (among_front _ d de (is_there (has_d r f) _ e))));
      de = λ e. among_back _ q (qe ++ (re ++ (d ++ de))) (among_back _ qe (re ++ (d ++ de)) (among_back _ re (d ++ de) (among_back _ d de (is_there (has_de r f) _ e))));
    }

-- each output that is asked for
output_there : (face : LaidFace) (w : ℕ) (n : List ℕ) → IsOutput face w n → Among (output_port w n) (access_ports ++ rows_ports face.rows)
output_there face w n answer_data = of_access face _ (inr (inr (inr (inr (inr (inr (inr (inl refl))))))))
output_there face w n answer_error = of_access face _ (inr (inr (inr (inr (inr (inr (inr (inr (inl refl)))))))))
output_there face w n (field_value r f of shown) = of_field face _ r f of ((field_has r f).q (has_q_is r f ∙ shown))
output_there face w n (field_written r f of shown) = of_field face _ r f of ((field_has r f).qe (has_qe_is r f ∙ shown))
output_there face w n (field_read r f of shown) = of_field face _ r f of ((field_has r f).re (has_re_is r f ∙ shown))
output_there face w n (update_error r of shown) = of_register face r of (has_shadow_is r ∙ shown)
output_there face w n (window_written u of) = of_window face _ u of (inl refl)
output_there face w n (window_read u of) = of_window face _ u of (inr (inl refl))
output_there face w n (window_address u of) = of_window face _ u of (inr (inr (inl refl)))
output_there face w n (window_data u of) = of_window face _ u of (inr (inr (inr (inl refl))))
output_there face w n (window_strobes u of) = of_window face _ u of (inr (inr (inr (inr (inl refl)))))

-- each input
input_there : (face : LaidFace) (w : ℕ) (n : List ℕ) → IsInput face w n → Among (input_port w n) (access_ports ++ rows_ports face.rows)
input_there face w n clock = of_access face _ (inl refl)
input_there face w n reset = of_access face _ (inr (inl refl))
input_there face w n access_write = of_access face _ (inr (inr (inl refl)))
input_there face w n access_read = of_access face _ (inr (inr (inr (inl refl))))
input_there face w n access_address = of_access face _ (inr (inr (inr (inr (inl refl)))))
input_there face w n access_data = of_access face _ (inr (inr (inr (inr (inr (inl refl))))))
input_there face w n access_strobes = of_access face _ (inr (inr (inr (inr (inr (inr (inl refl)))))))
input_there face w n (hardware_value r f of brought) = of_field face _ r f of ((field_has r f).d (has_d_is r f ∙ brought))
input_there face w n (hardware_strobe r f of brought) = of_field face _ r f of ((field_has r f).de (has_de_is r f ∙ brought))
input_there face w n (hardware_word u of) = of_window face _ u of (inr (inr (inr (inr (inr (inl refl))))))

-- ---- the whole

-- the module has its name
pub module_named : (name : List ℕ) (face : LaidFace) → (register_module name face).name ≡ name
unfolding register_module
module_named name face = refl

-- and just the ports that the interface asks for, each once
pub module_ports_are : (name : List ℕ) (face : LaidFace) → WellFormed (register_module name face) → HasPortsOf (register_module name face) face
unfolding register_module
module_ports_are name face well_formed =
    let all = all_join (IsPort face) access_ports (rows_ports face.rows) (access_asks face) (rows_ask face face.rows (λ row a. a)) in
    record {
      outputs = λ w n. (λ a. of_all (IsPort face) (output_port w n) (access_ports ++ rows_ports face.rows) all a, output_there face w n);
      inputs = λ w n. (λ a. of_all (IsPort face) (input_port w n) (access_ports ++ rows_ports face.rows) all a, input_there face w n);
      each_once = differ_front (port_names (access_ports ++ rows_ports face.rows)) (entry_names (register_entries face)) well_formed.names_differ;
    }
