-- WHERE FRESH TREE KEYS ARE READ (document 02, T-11): "private attribute 16385 in the Rekey SA's Group Key Bag, .. when their profile is
-- switched on for a member at creation". "Elsewhere, and with the profile off, the attribute is skipped": a frame then has none.
use Prim.Native.Nat.{ℕ}
use mathlib.Core.Path.{◌≡◌, refl, ap, sym, ◌∙◌, subst}
use mathlib.Core.Bool.{Bool, false, cond}
use mathlib.Core.Logic.{⊎_elim}
use mathlib.Core.List.Memᴰ
use mathlib.Core.List.{List, [], ◌∷◌, Memᴰ, flat_map}
use lib.Dec.{eqb}
use lib.ListN.{drop}
use borrow.Author.Tests.{eqb-true}
use Rattle.ikev2_numbers.specs.Codes.{attribute_sa_key, protocol_gike_update}
use Rattle.octets.specs.Walk.{Spans, none, more, Row, no-more, then}
use Rattle.wire_attributes.specs.Attribute.{Attribute}
use Rattle.wire_attributes.specs.Place.{meaning_of, in_bag}
use Rattle.wire_attributes.specs.declared.tables.Place.{Place}
use Rattle.wire_attributes.specs.declared.tables.Place.TheVariants as place
use Rattle.wire_attributes.specs.declared.tables.Meaning.TheVariants as meaning
use Rattle.wire_attributes.specs.Tree.{WrapKey, code_of, values_of, fresh_keys}
use Rattle.wire_bags.specs.Bag.{Bag, GroupKeyBag}
use Rattle.wire_bags.specs.Grammar.{IsGroupKeyBag, IsBag, is-group, is_member}
use Rattle.wire_frames.specs.Exchange.{reads_fresh}
use Rattle.wire_frames.specs.Frame.{Frame, Payload, Content, none_next}
use Rattle.wire_frames.specs.Grammar.{IsContent, is-gsa, is-kd, is-delete, is-unread, IsPayload, IsFrame}
use Rattle.lists.proofs.Cases.{bool_cases}
use Rattle.rules_refusals.specs.Contents.{group_bag_of, bags_of_content, bags_of, group_bags, fresh_keys_of}
use Rattle.rules_outcome.proofs.RunsSpis.{gathered}

-- ---- a place in which the attribute means nothing has no fresh key
no-values : (p : Place) → ((k : ℕ) → eqb (code_of (meaning_of p k)) (code_of meaning.FreshKey) ≡ false) → (l : List Attribute) →
    values_of meaning.FreshKey p l ≡ []
unfolding values_of
no-values p h [] = refl
no-values p h (a ∷ l) = rw (h a.kind) (no-values p h l)

in-rekey-bag : (k : ℕ) → eqb (code_of (meaning_of place.RekeyBag k)) (code_of meaning.FreshKey) ≡ false
in-rekey-bag k = bool_cases (eqb k attribute_sa_key) (λ e. rw e refl) (λ e. rw e refl)

in-data-bag : (k : ℕ) → eqb (code_of (meaning_of place.DataBag k)) (code_of meaning.FreshKey) ≡ false
in-data-bag k = bool_cases (eqb k attribute_sa_key) (λ e. rw e refl) (λ e. rw e refl)

none-of-data : (l : List Attribute) → fresh_keys place.DataBag l ≡ []
none-of-data l = rw (no-values place.DataBag in-data-bag l) refl

none-unread : (p : ℕ) (l : List Attribute) → fresh_keys (in_bag false p) l ≡ []
none-unread p l =
    bool_cases (eqb p protocol_gike_update) (λ e. rw (e, no-values place.RekeyBag in-rekey-bag l) refl) (λ e. rw e (none-of-data l))

none-gathered : (l : List GroupKeyBag) → ((b : GroupKeyBag) → Memᴰ b l → b.fresh ≡ []) →
    flat_map (λ (b : GroupKeyBag). b.fresh) l ≡ []
unfolding flat_map
none-gathered [] h = refl
none-gathered (b ∷ l) h = rw (h b (Memᴰ.head refl), none-gathered l (λ c m. h c (Memᴰ.tail m))) refl

-- ---- the octets of each bag of a frame
record Laid (fresh : Bool) (b : GroupKeyBag) : Type 0 where
  octets : List ℕ
  is : IsGroupKeyBag fresh octets b

of-bag : (fresh : Bool) (o : List ℕ) (q : Bag) → IsBag fresh o q → (b : GroupKeyBag) → Memᴰ b (group_bag_of q) → Laid fresh b
of-bag fresh o _ (is-group i) b m = record { octets = o; is = subst (IsGroupKeyBag fresh o) (sym (Memᴰ.eq_of_singleton m)) i }
of-bag fresh o _ (is_member i) b m = absurd (Memᴰ.not-nil m)

in_row : (fresh : Bool) {s : List ℕ} {l : List Bag} → Row (IsBag fresh) s l → (q : Bag) → Memᴰ q l → (b : GroupKeyBag) →
    Memᴰ b (group_bag_of q) → Laid fresh b
in_row fresh no-more q m b n = absurd (Memᴰ.not-nil m)
in_row fresh (then o s i r) q m b n =
    ⊎_elim (λ e. of-bag fresh o q (subst (IsBag fresh o) (sym e) i) b n) (λ w. in_row fresh r q w b n) (Memᴰ.cases_cons m)

in-content : (fresh : Bool) (k : ℕ) (s : List ℕ) (c : Content) → IsContent fresh k s c → (q : Bag) → Memᴰ q (bags_of_content c) →
    (b : GroupKeyBag) → Memᴰ b (group_bag_of q) → Laid fresh b
in-content fresh k s _ (is-gsa e r) q m b n = absurd (Memᴰ.not-nil m)
in-content fresh k s _ (is-kd e r) q m b n = in_row fresh r q m b n
in-content fresh k s _ (is-delete e r) q m b n = absurd (Memᴰ.not-nil m)
in-content fresh k s _ (is-unread d e f) q m b n = absurd (Memᴰ.not-nil m)

in-spans : (fresh : Bool) {k : ℕ} {s rest : List ℕ} {l : List Payload} → Spans none_next (IsPayload fresh) k s l rest → (p : Payload) →
    Memᴰ p l → (q : Bag) → Memᴰ q (bags_of_content p.content) → (b : GroupKeyBag) → Memᴰ b (group_bag_of q) → Laid fresh b
in-spans fresh (none e) p m q n b i = absurd (Memᴰ.not-nil m)
in-spans fresh {k} (more {st' = j} o s {a = x} e h r) p m q n b i =
    ⊎_elim
    (λ w.
    in-content fresh k (drop 4 o) x.content h.content q (subst (λ (y : Payload). Memᴰ q (bags_of_content y.content)) w n) b i)
    (λ w. in-spans fresh r p w q n b i) (Memᴰ.cases_cons m)

module _ (profile : Bool) (octets : List ℕ) (f : Frame) (e : IsFrame profile octets f) where
  laid : (b : GroupKeyBag) → Memᴰ b (group_bags f) → Laid (reads_fresh profile f.header.exchange) b
  laid b m =
      let q = gathered group_bag_of b (bags_of f) m in
      let p = gathered (λ (x : Payload). bags_of_content x.content) q.from f.payloads q.stands in
      in-spans (reads_fresh profile f.header.exchange) e.payloads p.from p.stands q.from p.gives b q.gives

  -- a bag with fresh keys is the Rekey SA's, protocol 6
  pub fresh-in-rekey-bags : (b : GroupKeyBag) → Memᴰ b (group_bags f) → (w : WrapKey) → Memᴰ w b.fresh → b.protocol ≡ 6
  fresh-in-rekey-bags b m w n =
      let i = (laid b m).is in
      let r = reads_fresh profile f.header.exchange in
      bool_cases (eqb b.protocol 6) (λ g. eqb-true b.protocol 6 g)
      (λ g.
      let z : b.fresh ≡ [] =
      sym i.entries
      ∙ ap (λ (c : Bool). fresh_keys (cond c (cond r place.FreshRekeyBag place.RekeyBag) place.DataBag) i.attributes) g
      ∙ none-of-data i.attributes in
      absurd (Memᴰ.not-nil (subst (Memᴰ w) z n)))

  -- where they are not read, the frame has none
  pub no-fresh : reads_fresh profile f.header.exchange ≡ false → fresh_keys_of f ≡ []
  no-fresh r = none-gathered (group_bags f) (λ b m. unread b (subst (λ (x : Bool). Laid x b) r (laid b m)))
    where
      unread : (b : GroupKeyBag) → Laid false b → b.fresh ≡ []
      unread b i = sym i.is.entries ∙ none-unread b.protocol i.is.attributes
