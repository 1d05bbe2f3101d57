-- Two writes behind the end of an area, and one sync.
use Rattle.std.proofs.Common.{◌≡◌, ℕ, ◌+◌, ◌≤◌, min, List, [], ◌++◌, length, take, drop, Some, refl, sym, ◌∙◌, ap, arith, append_assoc, length-append, take-append-drop}
use Rattle.std.proofs.lemmas.List.{append-nil, take_all, take_at, drop_all, take-take}
use Rattle.disk_trait.specs.declared.area.Area.{Area}
use Rattle.disk_trait.specs.Areas.{Areas, area_of, other_area}
use Rattle.disk_trait.proofs.Laws.{same_areas}
use Rattle.disk_trait.specs.Disk.{DiskView, Torn, Written, OnArea, Follows, NoNewImage, Pins, Leads, IsSettled, ComesFrom, Elapses, LeavesOnly}
use Rattle.disk_trait.proofs.Laws.{begins, goes_on, leads_forth}
use Rattle.gate_areas.specs.Steps.{Grows, GrowsBy}
use Rattle.gate_areas.proofs.Runs.{comes_same}

pub grows_torn : (at n : ℕ) (old mid new : List ℕ) → Grows old mid → length old ≤ at → Torn at n mid new → Grows old new
grows_torn at n old mid new grown le torn =
    let k = min at (length mid) in
    let long : length old ≤ min at (length mid) = omega (arith, ap length grown.1, length-append old grown.0) in
    let kept : take (length old) new ≡ old =
    sym (take-take (length old) k new long) ∙ ap (λ (l : List ℕ). take (length old) l) torn.before ∙ take-take (length old) at mid le
    ∙ ap (λ (l : List ℕ). take (length old) l) grown.1 ∙ take_at old grown.0 (length old) refl in
    (drop (length old) new, sym (take-append-drop (length old) new) ∙ ap (λ (l : List ℕ). l ++ drop (length old) new) kept)

pub grows_by : (at : ℕ) (bytes old new : List ℕ) → length old ≡ at → Written at bytes old new → new ≡ old ++ bytes
grows_by at bytes old new long written =
    written
    ∙ ap (λ (l : List ℕ). l ++ bytes ++ drop (at + length bytes) old) (take_all at old (omega (arith, long)))
    ∙ ap (λ (l : List ℕ). old ++ bytes ++ l) (drop_all (at + length bytes) old (omega (arith, long)))
    ∙ append-nil (old ++ bytes)

grows_more : (area : Area) (at n : ℕ) (old : DiskView) (before image : Areas) → (from : ComesFrom (OnArea area Grows) old before) → length (area_of area from.given) ≤ at
    → OnArea area (Torn at n) before image → ComesFrom (OnArea area Grows) old image
grows_more area at n old before image from le step = record {
  given = from.given;
  was_given = from.was_given;
  stepped = record { here = grows_torn at n (area_of area from.given) (area_of area before) (area_of area image) from.stepped.here le step.here; elsewhere = step.elsewhere ∙ from.stepped.elsewhere };
}

module _ (area : Area) (end : ℕ) (first second : List ℕ) (old : DiskView) (settled : IsSettled old)
    (at_end : (given : Areas) → old.reads ≡ Some given → length (area_of area given) ≡ end)
    (only_now : (image : Areas) → old.left_since old.moment image → old.may_leave image)
    (one : DiskView) (follows : Follows (OnArea area (Torn end (length first))) old one) (time : Elapses old one) where
  after_one : (image : Areas) → one.may_leave image → ComesFrom (OnArea area Grows) old image
  after_one image left =
      let from = follows image left in
      let told = settled from.0 from.1 in
      grows_more area end (length first) old from.0 image (comes_same area Grows old from.0 told ([], sym (append-nil (area_of area from.0)))) (omega (arith, at_end from.0 told)) from.2

  pub run_one : LeavesOnly old one (ComesFrom (OnArea area Grows) old)
  run_one = goes_on (begins only_now (λ image left. comes_same area Grows old image (settled image left) ([], sym (append-nil (area_of area image))))) time after_one

  module _ (two : DiskView) (follows_on : Follows (OnArea area (Torn (end + length first) (length second))) one two) (time_on : Elapses one two) where
    after_two : (image : Areas) → two.may_leave image → ComesFrom (OnArea area Grows) old image
    after_two image left =
        let from = follows_on image left in
        let before = after_one from.0 from.1 in
        grows_more area (end + length first) (length second) old from.0 image before (omega (arith, at_end before.given before.was_given)) from.2

    pub run_two : LeavesOnly old two (ComesFrom (OnArea area Grows) old)
    run_two = goes_on run_one time_on after_two

    module _ (new : DiskView) (none_new : NoNewImage two new) where
      pub run_synced : Elapses two new → LeavesOnly old new (ComesFrom (OnArea area Grows) old)
      run_synced time_then = goes_on run_two time_then (λ image left. after_two image (none_new image left))

      module _ (same : new.reads ≡ two.reads) (leads_one : Leads (OnArea area (Written end first)) old one)
          (leads_two : Leads (OnArea area (Written (end + length first) second)) one two) where
        joined : (given a b : Areas) → old.reads ≡ Some given → OnArea area (Written end first) given a → OnArea area (Written (end + length first) second) a b → OnArea area (GrowsBy (first ++ second)) given b
        joined given a b told to_a to_b =
            let a_is = grows_by end first (area_of area given) (area_of area a) (at_end given told) to_a.here in
            let long : length (area_of area a) ≡ end + length first = omega (arith, ap length a_is, length-append (area_of area given) first, at_end given told) in
            let b_is = grows_by (end + length first) second (area_of area a) (area_of area b) long to_b.here in
            record {
              here = b_is ∙ ap (λ (l : List ℕ). l ++ second) a_is ∙ append_assoc (area_of area given) first second;
              elsewhere = to_b.elsewhere ∙ to_a.elsewhere;
            }

        pub put_both : Leads (OnArea area (GrowsBy (first ++ second))) old new
        put_both = λ image told.
            let b = leads_two image (sym same ∙ told) in
            let a = leads_one b.given b.was_given in
            record { given = a.given; was_given = a.was_given; stepped = joined a.given b.given image a.was_given a.stepped b.stepped }

        pub settled_both : Pins area two new → IsSettled new
        settled_both pins = λ image left.
            let from_two = follows_on image (none_new image left) in
            let from_one = follows from_two.0 from_two.1 in
            let a = leads_forth old one from_one.0 time.told leads_one (settled from_one.0 from_one.1) in
            let b = leads_forth one two a.0 time_on.told leads_two a.1 in
            let elsewhere : area_of (other_area area) image ≡ area_of (other_area area) b.0 =
            from_two.2.elsewhere ∙ from_one.2.elsewhere ∙ sym a.2.elsewhere ∙ sym b.2.elsewhere in
            same ∙ b.1 ∙ ap (λ (x : Areas). Some x) (sym (same_areas area image b.0 (pins b.0 b.1 image left) elsewhere))
