-- Where nothing is at the address, the response is an error with data all ones.
use Rattle.std.proofs.Common.{Bool, List, Some, [], ap, drop, false, inl, inr, refl, slice_get, subst, suc, sym, true, zero, ℕ, ◌∙◌, ◌∷◌, ◌≡◌}
use Rattle.std.proofs.lemmas.Bool.{eq-eqb}
use Rattle.cg_busspec.specs.Ranges.{address_of}
use Rattle.cg_desc.specs.AddressMap.{IsPlaceFor}
use Rattle.cg_desc.specs.BlockStep.{Access, BlockStep, Where, is_error}
use Rattle.cg_desc.specs.Merged.{of_top}
use Rattle.cg_desc.specs.Target.{Target, error, register, word}
use Rattle.cg_desc.specs.declared.address.Place.{Place}
use Rattle.cg_desc.specs.declared.address.Place.TheVariants.{Error, Outside as outside_at}
use Rattle.cg_desc.specs.declared.block.LaidFace.{LaidFace}
use Rattle.cg_regspec.specs.Meaning.{bit_of, hardware_in, outcome_in, state_in}
use Rattle.cg_regspec.specs.NetNames.{reg_error, reg_rdata}
use Rattle.cg_space.proofs.OnePlace.{each_address_is_one_place}
use Rattle.cg_svspec.proofs.OneEnd.{walk_has_one_end}
use Rattle.cg_svspec.specs.Bits.{ones}
use Rattle.cg_svspec.specs.Names.{Among, Differ}
use Rattle.cg_svspec.specs.Tree.{Connection}
use Rattle.cg_svspec.specs.Value.{Values}
use Rattle.cg_svspec.specs.Walk.{End, Walks, answers, same_place}
use Rattle.cg_svspec.specs.WellFormed.{connection_names}
use Rattle.cg_topspec.proofs.Arrivals.{connection_name_in}
use Rattle.cg_topspec.specs.TopModule.{instance_connections, top_module}
use Rattle.cg_topspec.proofs.Law.{requests_come}
use Rattle.cg_topspec.proofs.Merges.{instance_of_face}
use Rattle.cg_topspec.proofs.NoClash.{names_apart}
use Rattle.cg_topspec.proofs.Selecting.{select_means}
use Rattle.cg_topspec.proofs.TopLinks.{some_same}
use Rattle.cg_topspec.specs.Select.{AnswersWith, ErrorsAnswer, ends_at, instance_place, kind_of}
use Rattle.cg_topspec.specs.Ways.{Comes, target_place, to_interface, to_nothing, to_port}
use Rattle.cg_svspec.specs.Walk as walk

is_place : Place → Bool
is_place Error = false
is_place _ = true

only_error : (i f : ℕ) (t : Target) → target_place i f t ≡ Error → t ≡ error
unfolding is_place
only_error i f (register r) e = let both : true ≡ false = ap is_place e in absurd (cc)
only_error i f (word r k) e = let both : true ≡ false = ap is_place e in absurd (cc)
only_error i f error e = refl

no_outside : (x n : ℕ) → outside_at x n ≡ Error → ⊥
unfolding is_place
no_outside x n e = let both : true ≡ false = ap is_place e in absurd (cc)

-- a valid access at nothing is an error
valid_error : (face : LaidFace) (a : Access) (b w : Bool) → b ≡ true → a.kind ≡ kind_of b w → is_error face error a ≡ true
valid_error face a false w e k = cc
valid_error face a true false e k = rw k refl
valid_error face a true true e k = rw k refl

step_error : (face : LaidFace) (target : Target) (a : Access) (states inputs v next : Values) → BlockStep face target a (state_in states) (hardware_in inputs) (outcome_in v next) → target ≡ error
    → is_error face error a ≡ true → (bit_of (v reg_error) ≡ true) × (v reg_rdata ≡ ones 32)
step_error face target a states inputs v next step t e =
    let bad : is_error face target a ≡ true = ap (λ z. is_error face z a) t ∙ e in
    (step.response ∙ bad, subst (λ b. Where b (v reg_rdata ≡ ones 32)) bad step.data_of_error)

-- the access at an interface that is reached
reached_here : (i j : ℕ) → ends_at (walk.face i j) i j ≡ true
reached_here i j = rw (eq-eqb i i refl, eq-eqb j j refl) refl

-- where no name stands twice, a connection stands at one number
get_in : (cs : List Connection) (k : ℕ) (c : Connection) → slice_get cs k ≡ Some c → Among c cs
get_in [] k c e = cc
get_in (x ∷ cs) zero c e = inl (sym (some_same x c e))
get_in (x ∷ cs) (suc k) c e = inr (get_in cs k c e)

one_number_of : (cs : List Connection) → Differ (connection_names cs) → (j k : ℕ) (c : Connection) → slice_get cs j ≡ Some c → slice_get cs k ≡ Some c → j ≡ k
one_number_of [] d j k c a b = cc
one_number_of (x ∷ cs) d zero zero c a b = refl
one_number_of (x ∷ cs) d zero (suc k) c a b = absurd (d.0 (subst (λ (z : Connection). Among z.name (connection_names cs)) (sym (some_same x c a)) (connection_name_in c cs (get_in cs k c b))))
one_number_of (x ∷ cs) d (suc j) zero c a b = absurd (d.0 (subst (λ (z : Connection). Among z.name (connection_names cs)) (sym (some_same x c b)) (connection_name_in c cs (get_in cs j c a))))
one_number_of (x ∷ cs) d (suc j) (suc k) c a b = ap suc (one_number_of cs d.1 j k c a b)

pub errors_answer : ErrorsAnswer
errors_answer m numbers ties pins ms x h request end inputs states v next clock valid nothing e d answers =
    by (requests_come m numbers ties pins ms clock.fits clock.unbroken clock.no_clash clock.modules x h clock.host request clock.sized) where
      one : (f : walk.End) → Walks (top_module m numbers ties pins ∷ ms) clock.host.host.name request f → end ≡ f
      one f w = walk_has_one_end (top_module m numbers ties pins ∷ ms) clock.host.host.name request end f clock.selects.walks w

      same_place : (p : Place) → IsPlaceFor m x h (address_of request) p → p ≡ Error
      same_place p is = each_address_is_one_place m x h (address_of request) p Error (of_top clock.fits.merged) clock.unbroken is nothing

      by : Comes m numbers ties pins ms x h clock.host.host.name request → (e ≡ true) × (d ≡ ones 32)
      by (to_nothing place w) = subst (λ z. AnswersWith z v e d) (one walk.error w) answers
      by (to_port z c ends place w) = absurd (no_outside z c (same_place _ place))
      by (to_interface i f j z c interface target meets is place w) =
          let n = instance_place m numbers pins i in
          let ends_here : end ≡ walk.face n j = one (walk.face n j) w in
          let st = select_means m numbers ties pins ms x h request end inputs states v next clock i f z c interface meets.stands meets.interface_is in
          let names = names_apart (record { merged = m; numbers = numbers; ties = ties; pins = pins }) clock.fits.ties_are clock.no_clash ms clock.modules in
          let less = instance_of_face m clock.fits.merged i f interface meets.interface_is in
          let same : st.number ≡ j = one_number_of (instance_connections m ties i) (names.block_ports i less) st.number j _ st.meets.request_is meets.request_is in
          let here : ends_at end n st.number ≡ true = ap (λ z. ends_at z n st.number) ends_here ∙ (ap (λ k. ends_at (walk.face n j) n k) same ∙ reached_here n j) in
          let r = st.reached here in
          let target_is : st.target ≡ error = only_error i f st.target (same_place _ r.2) in
          let bad = valid_error interface st.access (bit_of (drop 69 request)) (bit_of (drop 68 request)) valid (ap (λ (a : Access). a.kind) r.0) in
          let said = step_error interface st.target st.access (states n st.number) (inputs n st.number) (v n st.number) (next n st.number) st.steps target_is bad in
          let a = subst (λ z. AnswersWith z v e d) ends_here answers in
          (a.0 ∙ (ap (λ k. bit_of (v n k reg_error)) (sym same) ∙ said.0), a.1 ∙ (ap (λ k. v n k reg_rdata) (sym same) ∙ said.1))
