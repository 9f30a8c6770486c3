-- Where the requests of a described crossbar's hosts end.
use Rattle.std.proofs.Common.{◌≡◌, ℕ, true, false, List, [], ◌∷◌, ap, sym, subst, ◌∙◌, Option, Some, None}
use Rattle.std.specs.Prelude.{slice_get}
use Rattle.cg_svspec.specs.Names.{Among, Differ, module_names}
use Rattle.cg_svspec.specs.Register.{output_port}
use Rattle.cg_svspec.specs.Links.{host_link, device_link}
use Rattle.cg_svspec.specs.Walk.{outside, error, Walks}
use Rattle.cg_desc.specs.Crossbar.{IsValidCrossbar}
use Rattle.cg_desc.specs.declared.crossbar.NodeRanges.{NodeRanges}
use Rattle.cg_desc.specs.declared.crossbar.XbarDesc.{XbarDesc}
use Rattle.cg_busspec.specs.Crossbar.{device_ranges, crossbar_of, node, hosts, reach, some_holds}
use Rattle.cg_busspec.specs.CrossbarMeaning.{Routes, Carries, NoneHas}
use Rattle.cg_busspec.specs.CrossbarModule.{h_link, crossbar_module}
use Rattle.cg_busspec.specs.Passage.{Passes}
use Rattle.cg_busspec.specs.Ranges.{AreRangesOf}
use Rattle.cg_busspec.proofs.Accepted.{is_crossbar}
use Rattle.cg_busspec.proofs.Described.{host_has, connects_is, connects_has, address_has, lacks_address}
use Rattle.cg_busspec.proofs.Named.{name_is, h_link_is, d_link_is}
use Rattle.cg_busspec.proofs.Passages.{crossbar_leads}
use Rattle.cg_busspec.proofs.Ways.{crossbar_routes}

-- a host's device without the address has it in none of its ranges
none_holds : (x : XbarDesc) (ranges : List NodeRanges) → IsValidCrossbar x → AreRangesOf x ranges → (h a : ℕ) → Among h (hosts x) → NoneHas x ranges h a
    → (d : ℕ) → Among d (reach x h) → some_holds a (device_ranges (crossbar_of x ranges) d) ≡ false
none_holds x ranges valid are h a i lacks d j =
    let c = connects_is x h d i j in lacks_address x ranges d a are.count (valid.devices_only h d c) (lacks d c)

-- Where requests end.
pub described_routes : (x : XbarDesc) (ranges : List NodeRanges) → IsValidCrossbar x → AreRangesOf x ranges → Differ (module_names (crossbar_module (crossbar_of x ranges)))
    → Routes (crossbar_module (crossbar_of x ranges)) x ranges
described_routes x ranges valid are differ =
    let m = crossbar_module (crossbar_of x ranges) in
    let ends = crossbar_routes (crossbar_of x ranges) (is_crossbar x ranges valid are) differ in
    record {
      reaches = λ h d host device request is e c long has.
          let found = ends.reaches h d request (host_has x h host is.0 is.1) (connects_has x h d c) long (address_has x ranges d _ (valid.devices_only h d c) has) in (
            found.0,
            subst (λ z. slice_get m.ports found.0 ≡ Some (output_port 70 z.request)) (d_link_is x d device e) found.1,
            subst (λ z. Walks (m ∷ []) z request (outside found.0)) (name_is x h host is.0) found.2,
          );
      reaches_none = λ h host request is long lacks.
          let i = host_has x h host is.0 is.1 in
          subst (λ z. Walks (m ∷ []) z request error) (name_is x h host is.0) (ends.reaches_none h request i long (none_holds x ranges valid are h _ i lacks));
    }

-- And how they pass the module, wherever it stands.
pub described_carries : (x : XbarDesc) (ranges : List NodeRanges) → IsValidCrossbar x → AreRangesOf x ranges → Differ (module_names (crossbar_module (crossbar_of x ranges)))
    → Carries (crossbar_module (crossbar_of x ranges)) x ranges
described_carries x ranges valid are differ =
    let m = crossbar_module (crossbar_of x ranges) in
    let leads = crossbar_leads (crossbar_of x ranges) (is_crossbar x ranges valid are) differ in
    record {
      carries = λ h d host device request is e c long has.
          subst (λ z. Passes m request [] z (Some (device_link device.name))) (h_link_is x h host is.0)
          (subst (λ z. Passes m request [] (h_link x h) (Some z)) (d_link_is x d device e)
          (leads.leads h d request (host_has x h host is.0 is.1) (connects_has x h d c) long (address_has x ranges d _ (valid.devices_only h d c) has)));
      stops = λ h host request is long lacks.
          let i = host_has x h host is.0 is.1 in
          subst (λ z. Passes m request [] z None) (h_link_is x h host is.0) (leads.stops h request i long (none_holds x ranges valid are h _ i lacks));
    }
