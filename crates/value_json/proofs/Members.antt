-- The members of an object stand in the order of the properties, whose names rise.
use Rattle.std.proofs.Common.{◌≡◌, ℕ, true, List, [], ◌∷◌, ◌++◌, refl, sym, ap, ◌∙◌, append_assoc, append-nil}
use Rattle.std.specs.Ordering.{match_ordering}
use Rattle.clone_values.specs.Tree.{Tree, Members, no_members, member_more, members_of, list_of_members}
use Rattle.clone_values.specs.Names.{names_of, is_rising}
use Rattle.serde_json.specs.Data.{put}
use Rattle.serde_json.specs.Data as json
use Rattle.value_json.specs.Tokens.{in_order}
use Rattle.value_json.specs.Writing.{json_of, members_json}
use Rattle.value_json.proofs.Folds.{above, less_rising}

pub members_listed : (ms : Members) → members_of (list_of_members ms) ≡ ms
members_listed no_members = refl
members_listed (member_more n t ms) = ap (member_more n t) (members_listed ms)

put_last : (m : List ℕ × Tree) (rest done : List (List ℕ × Tree)) → is_rising (names_of (done ++ m ∷ rest)) ≡ true → put m.0 (json_of m.1) (in_order (members_of done)) ≡ in_order (members_of (done ++ m ∷ []))
put_last m rest [] h = refl
put_last m rest (k ∷ done) h =
    let d = json_of m.1 in
    ap (λ o. match_ordering o (json.member m.0 d (in_order (members_of (k ∷ done)))) (json.member k.0 d (in_order (members_of done))) (json.member k.0 (json_of k.1) (put m.0 d (in_order (members_of done))))) (above m rest k done h)
    ∙ ap (json.member k.0 (json_of k.1)) (put_last m rest done (less_rising m rest k done h))

all_put : (ms : Members) (done : List (List ℕ × Tree)) → is_rising (names_of (done ++ list_of_members ms)) ≡ true → members_json (in_order (members_of done)) ms ≡ in_order (members_of (done ++ list_of_members ms))
all_put no_members done h = ap (λ l. in_order (members_of l)) (sym (append-nil done))
all_put (member_more n t ms) done h =
    let whole = append_assoc done ((n, t) ∷ []) (list_of_members ms) in
    ap (λ w. members_json w ms) (put_last (n, t) (list_of_members ms) done h) ∙ all_put ms (done ++ (n, t) ∷ []) (ap (λ w. is_rising (names_of w)) whole ∙ h) ∙ ap (λ l. in_order (members_of l)) whole

pub members_in_order : (ms : Members) → is_rising (names_of (list_of_members ms)) ≡ true → members_json json.no_members ms ≡ in_order ms
members_in_order ms h = all_put ms [] h ∙ ap in_order (members_listed ms)
