-- Each access can be made in any clock of a register module, whatever hardware brings in it.
use Rattle.std.proofs.Common.{◌≡◌, ℕ, Bool, true, false, cond, List, [], ◌∷◌, ◌++◌, length, refl, ap, subst, ◌∙◌, inl, inr}
use Rattle.std.specs.Str.{bytes_eq}
use Rattle.cg_svspec.specs.Bits.{bits}
use Rattle.cg_svspec.specs.Names.{Among, Differ, port_names}
use Rattle.cg_svspec.specs.Printable.{AllOf}
use Rattle.cg_svspec.specs.Register.{access_ports}
use Rattle.cg_svspec.specs.Tree.{Port}
use Rattle.cg_svspec.specs.Value.{Values, InputFits}
use Rattle.cg_svspec.proofs.BitLists.{length-bits}
use Rattle.cg_svspec.proofs.NamesLemmas.{same_name, not_chosen, differ_across}
use Rattle.cg_svspec.proofs.Parts.{all_front, all_back, all_join}
use Rattle.cg_desc.specs.BlockStep.{Access, is_read, is_write}
use Rattle.cg_regspec.specs.NetNames.{reg_we, reg_re, reg_addr, reg_wdata, reg_be}
use Rattle.cg_regspec.specs.Runs.{IsAccess, access_nets, EachAccessIsCarried}

-- the values of the access, and these otherwise
abbrev with_access : Access → Values → Values
with_access a brought n =
    cond (bytes_eq n reg_we) (is_write a.kind ∷ []) (cond (bytes_eq n reg_re) (is_read a.kind ∷ []) (cond (bytes_eq n reg_addr) (bits 32 a.address)
    (cond (bytes_eq n reg_wdata) a.data_in (cond (bytes_eq n reg_be) a.strobes (brought n)))))

-- another net has its value
other_value : (a : Access) (brought : Values) (n : List ℕ) → (Among n access_nets → ⊥) → with_access a brought n ≡ brought n
other_value a brought n other =
    not_chosen (bytes_eq n reg_we) _ _ (λ e. other (inl (same_name n reg_we e)))
    ∙ (not_chosen (bytes_eq n reg_re) _ _ (λ e. other (inr (inl (same_name n reg_re e))))
    ∙ (not_chosen (bytes_eq n reg_addr) _ _ (λ e. other (inr (inr (inl (same_name n reg_addr e)))))
    ∙ (not_chosen (bytes_eq n reg_wdata) _ _ (λ e. other (inr (inr (inr (inl (same_name n reg_wdata e))))))
    ∙ not_chosen (bytes_eq n reg_be) _ _ (λ e. other (inr (inr (inr (inr (inl (same_name n reg_be e))))))))))

-- the inputs by which software asks are ports of the access
is_access_port : (n : List ℕ) → Among n access_nets → Among n (port_names access_ports)
is_access_port n (inl e) = inr (inr (inl e))
is_access_port n (inr (inl e)) = inr (inr (inr (inl e)))
is_access_port n (inr (inr (inl e))) = inr (inr (inr (inr (inl e))))
is_access_port n (inr (inr (inr (inl e)))) = inr (inr (inr (inr (inr (inl e)))))
is_access_port n (inr (inr (inr (inr (inl e))))) = inr (inr (inr (inr (inr (inr (inl e))))))
is_access_port n (inr (inr (inr (inr (inr none))))) = absurd none

-- the other ports keep their widths
others_fit : (a : Access) (brought : Values) (ps : List Port) → ((n : List ℕ) → Among n (port_names ps) → Among n access_nets → ⊥) → AllOf (InputFits brought) ps
    → AllOf (InputFits (with_access a brought)) ps
others_fit a brought [] apart fit = tt
others_fit a brought (p ∷ ps) apart fit = (by p.input fit.0, others_fit a brought ps (λ n b. apart n (inr b)) fit.1) where
  by : (b : Bool) → cond b (length (brought p.name) ≡ p.width) (Unit {0}) → cond b (length (with_access a brought p.name) ≡ p.width) (Unit {0})
  by true wide = ap length (other_value a brought p.name (apart p.name (inl refl))) ∙ wide
  by false wide = tt

-- and those of the access have theirs
access_fits : (a : Access) (brought : Values) → IsAccess a → AllOf (InputFits brought) access_ports → AllOf (InputFits (with_access a brought)) access_ports
access_fits a brought is fit =
    (fit.0, (fit.1.0, (refl, (refl, (length-bits 32 a.address, (is.data_wide, (is.strobes_wide, (tt, (tt, tt)))))))))

-- all ports of the module
all_fit : (a : Access) (brought : Values) (ports others : List Port) → IsAccess a → ports ≡ access_ports ++ others → Differ (port_names ports) → AllOf (InputFits brought) ports
    → AllOf (InputFits (with_access a brought)) ports
all_fit a brought ports others is are differ fit =
    let all : AllOf (InputFits brought) (access_ports ++ others) = subst (AllOf (InputFits brought)) are fit in
    let names : Differ (port_names access_ports ++ port_names others) = subst (λ ps. Differ (port_names ps)) are differ in
    rw are (all_join (InputFits (with_access a brought)) access_ports others (access_fits a brought is (all_front (InputFits brought) access_ports others all))
    (others_fit a brought others (λ n b c. differ_across n (port_names access_ports) (port_names others) names (is_access_port n c) b) (all_back (InputFits brought) access_ports others all)))

-- Each access can be made, whatever hardware brings.
pub each_access_is_carried : EachAccessIsCarried
each_access_is_carried name m face means a is brought fit = record {
  inputs = with_access a brought;
  is_clock = record {
    fits = all_fit a brought m.ports means.is_register.others is means.is_register.ports means.ports.each_once fit;
    carries = record { we = refl; re = refl; address = refl; data_in = refl; strobes = refl; small = is.small };
  };
  others = other_value a brought;
}
