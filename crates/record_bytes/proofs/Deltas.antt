-- A change is read exactly where it is spelled.
use Rattle.std.proofs.Common.{◌≡◌, ℕ, Bool, true, cond, eqb, List, ◌∷◌, ◌++◌, Option, Some, None, refl, ap, subst, ◌∙◌, inl, inr}
use Rattle.std.specs.List.{AllByRecursion}
use Rattle.std.proofs.lemmas.Bool.{eqb-true}
use Rattle.clone_values.specs.declared.path_types.PathSpec.{PathSpec}
use Rattle.value_bytes.specs.Spelling.{word_bytes, string_bytes, spelling_of}
use Rattle.value_bytes.specs.KeySpelling.{key_spelling_of}
use Rattle.value_bytes.specs.Steps.{◌>>=◌, byte_at, text_at, pair_at}
use Rattle.value_bytes.specs.KeyReading.{key_at}
use Rattle.value_bytes.proofs.Laws as field
use Rattle.value_bytes.proofs.Laws.{IsBytes, Took, Format, pair}
use Rattle.idb_calls.specs.Deltas.{DeltaTree, Version, DropDatabase, CreateStore, DropStore, CreateIndex, DropIndex, Put, Remove, Clear, Current}
use Rattle.record_bytes.specs.declared.kinds.DeltaKind.{DeltaKind}
use Rattle.record_bytes.specs.declared.kinds.DeltaKind.TheVariants as kind
use Rattle.record_bytes.specs.Loggable.{is_logged_version, is_logged_current, IsLoggable, paths_in}
use Rattle.record_bytes.specs.Spelling.{delta_spelling}
use Rattle.record_bytes.specs.Reading.{store_name_at, index_name_at, logged_version_at, logged_current_at, store_kind_at, index_kind_at, record_entry_at, delta_kind_of, delta_body_at, delta_at}
use Rattle.record_bytes.proofs.Fields.{bind_some, chosen, some_is, first_byte, behind_first, made, remade, IsText, AreTwo, two_words, store_name, AreThree, three_words, index_name, version, current, IsPath, IsPathIfAny, store_kind_word, IsStoreKind, store_kind, index_kind_word, IsIndexKind, index_kind, KeySpelled, ValueSpelled, key, entry}

abbrev byte_of : DeltaKind → ℕ
byte_of kind.Version = 0x31
byte_of kind.DropDatabase = 0x32
byte_of kind.CreateStore = 0x33
byte_of kind.DropStore = 0x34
byte_of kind.CreateIndex = 0x35
byte_of kind.DropIndex = 0x36
byte_of kind.Put = 0x37
byte_of kind.Remove = 0x38
byte_of kind.Clear = 0x39
byte_of kind.Current = 0x3a

this_kind : (b n : ℕ) (j k : DeltaKind) (more : Option DeltaKind) → n ≡ byte_of j → (more ≡ Some k → b ≡ byte_of k) → cond (eqb b n) (Some j) more ≡ Some k → b ≡ byte_of k
this_kind b n j k more is later e = elim (chosen (eqb b n) (Some j) more (Some k) e) [
  | inl p ↦ eqb-true b n p.0 ∙ is ∙ ap byte_of (some_is j k p.1)
  | inr p ↦ later p.1
]

kind_is : (b : ℕ) (k : DeltaKind) → delta_kind_of b ≡ Some k → b ≡ byte_of k
kind_is b k =
    this_kind b 0x31 kind.Version k _ refl (this_kind b 0x32 kind.DropDatabase k _ refl (this_kind b 0x33 kind.CreateStore k _ refl
    (this_kind b 0x34 kind.DropStore k _ refl (this_kind b 0x35 kind.CreateIndex k _ refl (this_kind b 0x36 kind.DropIndex k _ refl
    (this_kind b 0x37 kind.Put k _ refl (this_kind b 0x38 kind.Remove k _ refl (this_kind b 0x39 kind.Clear k _ refl
    (this_kind b 0x3a kind.Current k _ refl (λ e. absurd cc))))))))))

-- ---- the formats of what stands behind each byte
abbrev NamedVersion : List ℕ × ℕ → Type 0
NamedVersion x = IsText x.0 × (is_logged_version x.1 ≡ true)

named_version : Format (pair_at text_at logged_version_at) (λ x. string_bytes x.0 ++ word_bytes x.1) NamedVersion
named_version = pair text_at string_bytes IsText logged_version_at word_bytes (λ n. is_logged_version n ≡ true) field.text version

new_store : Format (pair_at store_name_at store_kind_at) (λ x. two_words x.0 ++ store_kind_word x.1) (λ x. AreTwo x.0 × IsStoreKind x.1)
new_store = pair store_name_at two_words AreTwo store_kind_at store_kind_word IsStoreKind store_name store_kind

new_index : Format (pair_at index_name_at index_kind_at) (λ x. three_words x.0 ++ index_kind_word x.1) (λ x. AreThree x.0 × IsIndexKind x.1)
new_index = pair index_name_at three_words AreThree index_kind_at index_kind_word IsIndexKind index_name index_kind

put : Format (pair_at store_name_at record_entry_at) (λ x. two_words x.0 ++ (key_spelling_of x.1.0 ++ spelling_of x.1.1)) (λ x. AreTwo x.0 × (KeySpelled x.1.0 × ValueSpelled x.1.1))
put = pair store_name_at two_words AreTwo record_entry_at (λ x. key_spelling_of x.0 ++ spelling_of x.1) (λ x. KeySpelled x.0 × ValueSpelled x.1) store_name entry

remove : Format (pair_at store_name_at (key_at 100)) (λ x. two_words x.0 ++ key_spelling_of x.1) (λ x. AreTwo x.0 × KeySpelled x.1)
remove = pair store_name_at two_words AreTwo (key_at 100) key_spelling_of KeySpelled store_name key

new_current : Format (pair_at store_name_at logged_current_at) (λ x. two_words x.0 ++ word_bytes x.1) (λ x. AreTwo x.0 × (is_logged_current x.1 ≡ true))
new_current = pair store_name_at two_words AreTwo logged_current_at word_bytes (λ n. is_logged_current n ≡ true) store_name current

-- ---- what can be logged
paths_all : (db store : List ℕ) (path : Option PathSpec) (auto : Bool) → IsPathIfAny path → AllByRecursion IsPath (paths_in (CreateStore db store path auto))
paths_all db store None auto h = tt
paths_all db store (Some p) auto h = (h, tt)

path_if_any : (db store : List ℕ) (path : Option PathSpec) (auto : Bool) → AllByRecursion IsPath (paths_in (CreateStore db store path auto)) → IsPathIfAny path
path_if_any db store None auto h = tt
path_if_any db store (Some p) auto h = h.0

-- ---- a change
body_sound : (k : DeltaKind) (bs : List ℕ) (x : DeltaTree × List ℕ) → IsBytes bs → delta_body_at k bs ≡ Some x → Took (byte_of k ∷ bs) (delta_spelling x.0) x.1 × IsLoggable x.0
body_sound kind.Version bs x = made delta_spelling IsLoggable 0x31 (λ y. Version y.0 y.1) (pair_at text_at logged_version_at) (λ y. string_bytes y.0 ++ word_bytes y.1) NamedVersion named_version
    (λ y g. (refl, record { named = record { names = (g.0, tt); paths = tt }; parts = g.1 })) bs x
body_sound kind.DropDatabase bs x = made delta_spelling IsLoggable 0x32 DropDatabase text_at string_bytes IsText field.text
    (λ y g. (refl, record { named = record { names = (g, tt); paths = tt }; parts = tt })) bs x
body_sound kind.CreateStore bs x = made delta_spelling IsLoggable 0x33 (λ y. CreateStore y.0.0 y.0.1 y.1.0 y.1.1) (pair_at store_name_at store_kind_at) (λ y. two_words y.0 ++ store_kind_word y.1) (λ y. AreTwo y.0 × IsStoreKind y.1) new_store
    (λ y g. (refl, record { named = record { names = (g.0.0, (g.0.1, tt)); paths = paths_all y.0.0 y.0.1 y.1.0 y.1.1 g.1.0.0 }; parts = g.1.1 })) bs x
body_sound kind.DropStore bs x = made delta_spelling IsLoggable 0x34 (λ y. DropStore y.0 y.1) store_name_at two_words AreTwo store_name
    (λ y g. (refl, record { named = record { names = (g.0, (g.1, tt)); paths = tt }; parts = tt })) bs x
body_sound kind.CreateIndex bs x = made delta_spelling IsLoggable 0x35 (λ y. CreateIndex y.0.0.0 y.0.0.1 y.0.1 y.1.0 y.1.1.0 y.1.1.1) (pair_at index_name_at index_kind_at) (λ y. three_words y.0 ++ index_kind_word y.1) (λ y. AreThree y.0 × IsIndexKind y.1) new_index
    (λ y g. (refl, record { named = record { names = (g.0.0.0, (g.0.0.1, (g.0.1, tt))); paths = (g.1.0.0, tt) }; parts = g.1.1 })) bs x
body_sound kind.DropIndex bs x = made delta_spelling IsLoggable 0x36 (λ y. DropIndex y.0.0 y.0.1 y.1) index_name_at three_words AreThree index_name
    (λ y g. (refl, record { named = record { names = (g.0.0, (g.0.1, (g.1, tt))); paths = tt }; parts = tt })) bs x
body_sound kind.Put bs x = made delta_spelling IsLoggable 0x37 (λ y. Put y.0.0 y.0.1 y.1.0 y.1.1) (pair_at store_name_at record_entry_at) (λ y. two_words y.0 ++ (key_spelling_of y.1.0 ++ spelling_of y.1.1)) (λ y. AreTwo y.0 × (KeySpelled y.1.0 × ValueSpelled y.1.1)) put
    (λ y g. (refl, record { named = record { names = (g.0.0, (g.0.1, tt)); paths = tt }; parts = g.1 })) bs x
body_sound kind.Remove bs x = made delta_spelling IsLoggable 0x38 (λ y. Remove y.0.0 y.0.1 y.1) (pair_at store_name_at (key_at 100)) (λ y. two_words y.0 ++ key_spelling_of y.1) (λ y. AreTwo y.0 × KeySpelled y.1) remove
    (λ y g. (refl, record { named = record { names = (g.0.0, (g.0.1, tt)); paths = tt }; parts = g.1 })) bs x
body_sound kind.Clear bs x = made delta_spelling IsLoggable 0x39 (λ y. Clear y.0 y.1) store_name_at two_words AreTwo store_name
    (λ y g. (refl, record { named = record { names = (g.0, (g.1, tt)); paths = tt }; parts = tt })) bs x
body_sound kind.Current bs x = made delta_spelling IsLoggable 0x3a (λ y. Current y.0.0 y.0.1 y.1) (pair_at store_name_at logged_current_at) (λ y. two_words y.0 ++ word_bytes y.1) (λ y. AreTwo y.0 × (is_logged_current y.1 ≡ true)) new_current
    (λ y g. (refl, record { named = record { names = (g.0.0, (g.0.1, tt)); paths = tt }; parts = g.1 })) bs x

delta_sound : (bs : List ℕ) (x : DeltaTree × List ℕ) → IsBytes bs → delta_at bs ≡ Some x → Took bs (delta_spelling x.0) x.1 × IsLoggable x.0
unfolding delta_at
delta_sound bs x fits e =
    let b = bind_some (byte_at bs) (λ y. delta_kind_of y.0 >>= λ k. delta_body_at k y.1) x e in
    let k = bind_some (delta_kind_of b.0.0) (λ j. delta_body_at j b.0.1) x b.2 in
    let whole = first_byte bs b.0 b.1 in
    let got = body_sound k.0 b.0.1 x (behind_first b.0.0 b.0.1 (subst IsBytes whole fits)) k.2 in
    (record { parts = whole ∙ ap (λ n. n ∷ b.0.1) (kind_is b.0.0 k.0 k.1) ∙ got.0.parts; fits = got.0.fits }, got.1)

delta_again : (d : DeltaTree) (rest : List ℕ) → IsLoggable d → delta_at (delta_spelling d ++ rest) ≡ Some (d, rest)
unfolding delta_at
delta_again (Version db n) rest f = remade (λ y. Version y.0 y.1) (pair_at text_at logged_version_at) (λ y. string_bytes y.0 ++ word_bytes y.1) NamedVersion named_version (db, n) rest (f.named.names.0, f.parts)
delta_again (DropDatabase db) rest f = remade DropDatabase text_at string_bytes IsText field.text db rest f.named.names.0
delta_again (CreateStore db store path auto) rest f = remade (λ y. CreateStore y.0.0 y.0.1 y.1.0 y.1.1) (pair_at store_name_at store_kind_at) (λ y. two_words y.0 ++ store_kind_word y.1) (λ y. AreTwo y.0 × IsStoreKind y.1) new_store ((db, store), (path, auto)) rest
    ((f.named.names.0, f.named.names.1.0), ((path_if_any db store path auto f.named.paths, tt), f.parts))
delta_again (DropStore db store) rest f = remade (λ y. DropStore y.0 y.1) store_name_at two_words AreTwo store_name (db, store) rest (f.named.names.0, f.named.names.1.0)
delta_again (CreateIndex db store index path unique multi) rest f = remade (λ y. CreateIndex y.0.0.0 y.0.0.1 y.0.1 y.1.0 y.1.1.0 y.1.1.1) (pair_at index_name_at index_kind_at) (λ y. three_words y.0 ++ index_kind_word y.1) (λ y. AreThree y.0 × IsIndexKind y.1) new_index
    (((db, store), index), (path, (unique, multi))) rest (((f.named.names.0, f.named.names.1.0), f.named.names.1.1.0), ((f.named.paths.0, (tt, tt)), f.parts))
delta_again (DropIndex db store index) rest f = remade (λ y. DropIndex y.0.0 y.0.1 y.1) index_name_at three_words AreThree index_name ((db, store), index) rest ((f.named.names.0, f.named.names.1.0), f.named.names.1.1.0)
delta_again (Put db store k v) rest f = remade (λ y. Put y.0.0 y.0.1 y.1.0 y.1.1) (pair_at store_name_at record_entry_at) (λ y. two_words y.0 ++ (key_spelling_of y.1.0 ++ spelling_of y.1.1)) (λ y. AreTwo y.0 × (KeySpelled y.1.0 × ValueSpelled y.1.1)) put
    ((db, store), (k, v)) rest ((f.named.names.0, f.named.names.1.0), f.parts)
delta_again (Remove db store k) rest f = remade (λ y. Remove y.0.0 y.0.1 y.1) (pair_at store_name_at (key_at 100)) (λ y. two_words y.0 ++ key_spelling_of y.1) (λ y. AreTwo y.0 × KeySpelled y.1) remove ((db, store), k) rest ((f.named.names.0, f.named.names.1.0), f.parts)
delta_again (Clear db store) rest f = remade (λ y. Clear y.0 y.1) store_name_at two_words AreTwo store_name (db, store) rest (f.named.names.0, f.named.names.1.0)
delta_again (Current db store n) rest f = remade (λ y. Current y.0.0 y.0.1 y.1) (pair_at store_name_at logged_current_at) (λ y. two_words y.0 ++ word_bytes y.1) (λ y. AreTwo y.0 × (is_logged_current y.1 ≡ true)) new_current ((db, store), n) rest ((f.named.names.0, f.named.names.1.0), f.parts)

pub delta : Format delta_at delta_spelling IsLoggable
delta = record { sound = delta_sound; again = delta_again }
