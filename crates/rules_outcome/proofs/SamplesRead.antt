-- Octets that read as the frames of the samples, here for keys of 16 octets.
use native.Mathlib.Omega.{arith}
use Prim.Native.Nat.{ℕ, ◌+◌, ◌*◌, ◌<◌}
use mathlib.Core.Path.{◌≡◌, refl, ap, sym, ◌∙◌, subst}
use mathlib.Core.Bool.{true, false}
use mathlib.Core.List.{List, [], ◌∷◌, ◌++◌}
use borrow.Author.Tests.{lt-ltb, ltb-true}
use lib.Dec.{ltb}
use lib.ListN.{length, replicate}
use Rattle.octets.specs.Numbers.{number, oct}
use Rattle.octets.specs.Octets.{Octets}
use Rattle.octets.specs.Generate.{gen}
use Rattle.octets.specs.Walk.{whole, chain, chain_up_to, many}
use Rattle.octets.proofs.Generate.{gen-all}
use Rattle.octets.proofs.Octets.{no-octets, one-octet, join-octets}
use Rattle.lists.specs.Lists.{all}
use Rattle.lists.proofs.Cases.{and_parts}
use Rattle.fips197.specs.Key.{Key}
use Rattle.rfc5649.specs.Wrap.{wrap_of, blocks, start_registers}
use Rattle.rfc5649.specs.inner.Unwrap.{forward}
use Rattle.rfc5649.proofs.Registers.{octets-in-octets}
use Rattle.rfc5649.proofs.Wrapping.{length-wrap, wrap-registers}
use Rattle.wire_attributes.specs.Tree.{values_of}
use Rattle.wire_attributes.specs.Layout.{attribute}
use Rattle.wire_policies.specs.Selector.{Selector, selector}
use Rattle.wire_policies.specs.Transform.{transform}
use Rattle.wire_policies.specs.Policy.{suite, sa_body, policy}
use Rattle.wire_bags.specs.Bag.{bag}
use Rattle.wire_frames.specs.Frame.{Frame, frame, body, payload}
use Rattle.wire_frames.specs.Grammar.{IsFrame}
use Rattle.wire_frames.specs.Delete.{stretches}
use Rattle.wire_frames.proofs.FrameGrammar.{read-frame}
use Rattle.rules_outcome.specs.SampleFrames.{deleting, Around, registering, entry, Keying, FitKey, Rekeys}

-- ---- a registration
unfoldable pub group : List ℕ
group = 239 ∷ 1 ∷ 1 ∷ 1 ∷ []

unfoldable pub anywhere : Selector
anywhere = record { kind = 7; protocol = 17; start_port = 848; end_port = 848; start_address = group; end_address = group }

pub around : Around
around = record {
  auth = true;
  spis = replicate 16 1;
  message_id = 0;
  spi = 1 ∷ 2 ∷ 3 ∷ 4 ∷ [];
  source = anywhere;
  destination = anywhere;
  profile = false;
}

unfoldable pub selector_octets : List ℕ
selector_octets = 7 ∷ 17 ∷ 0 ∷ 16 ∷ 3 ∷ 80 ∷ 3 ∷ 80 ∷ 239 ∷ 1 ∷ 1 ∷ 1 ∷ 239 ∷ 1 ∷ 1 ∷ 1 ∷ []

-- the GSA payload: the policy with its two selectors, Key Length 128 in the first transform
gsa_octets : List ℕ
gsa_octets =
    (52 ∷ 0 ∷ 0 ∷ 64 ∷ 3 ∷ 4 ∷ 0 ∷ 60 ∷ 1 ∷ 2 ∷ 3 ∷ 4 ∷ []) ++ (selector_octets ++ (selector_octets ++
    (3 ∷ 0 ∷ 0 ∷ 12 ∷ 1 ∷ 0 ∷ 0 ∷ 20 ∷ 128 ∷ 14 ∷ 0 ∷ 128 ∷ 0 ∷ 0 ∷ 0 ∷ 8 ∷ 5 ∷ 0 ∷ 0 ∷ 0 ∷ [])))

-- the first n octets of w, one by one
unfoldable pub firsts : ℕ → List ℕ → List ℕ
firsts n w = gen (oct w) 0 n

-- WRAP_KEY with 24 wrapped octets
unfoldable pub entry_octets : ℕ → ℕ → List ℕ → List ℕ
entry_octets i k w = (0 ∷ 1 ∷ 0 ∷ 32 ∷ 0 ∷ 0 ∷ 0 ∷ i ∷ 0 ∷ 0 ∷ 0 ∷ k ∷ []) ++ firsts 24 w

-- a frame of h * 256 + n octets, its KD payload of d and its Member bag of m
registration_octets : ℕ → ℕ → ℕ → ℕ → List ℕ → List ℕ → List ℕ
registration_octets h n d m w entries =
    replicate 16 1 ++ ((51 ∷ 32 ∷ 39 ∷ 0 ∷ 0 ∷ 0 ∷ 0 ∷ 0 ∷ 0 ∷ 0 ∷ h ∷ n ∷ []) ++ (gsa_octets ++
    ((0 ∷ 0 ∷ 0 ∷ d ∷ 3 ∷ 4 ∷ 0 ∷ 52 ∷ 1 ∷ 2 ∷ 3 ∷ 4 ∷ 0 ∷ 1 ∷ 0 ∷ 40 ∷ 0 ∷ 0 ∷ 0 ∷ 0 ∷ 0 ∷ 0 ∷ 0 ∷ 0 ∷ []) ++
    (firsts 32 w ++ ((0 ∷ 0 ∷ 0 ∷ m ∷ []) ++ entries)))))

two-read : (w a b : List ℕ) → frame false (registration_octets 0 224 132 76 w (entry_octets 5 9 a ++ entry_octets 9 0 b))
    ≡ whole (registering around (firsts 32 w) (entry 5 9 (firsts 24 a) ∷ entry 9 0 (firsts 24 b) ∷ [])) []
unfolding frame payload body policy suite sa_body selector transform bag attribute many chain chain_up_to number values_of group anywhere around
    selector_octets gsa_octets firsts entry_octets registration_octets
two-read w a b = refl

three-read : (w a b c : List ℕ) →
    frame false (registration_octets 1 4 168 112 w (entry_octets 5 0 a ++ (entry_octets 5 9 b ++ entry_octets 9 0 c)))
    ≡ whole (registering around (firsts 32 w) (entry 5 0 (firsts 24 a) ∷ entry 5 9 (firsts 24 b) ∷ entry 9 0 (firsts 24 c) ∷ [])) []
unfolding frame payload body policy suite sa_body selector transform bag attribute many chain chain_up_to number values_of group anywhere around
    selector_octets gsa_octets firsts entry_octets registration_octets
three-read w a b c = refl

-- ---- keys of 16 octets wrap to 24, the 20 keying octets to 32
pub all_firsts : (n : ℕ) (w : List ℕ) → length w ≡ n → firsts n w ≡ w
unfolding firsts
all_firsts n w e = ap (gen (oct w) 0) (sym e) ∙ gen-all w

wrapped-32 : (key x : List ℕ) → Key key → Keying x → firsts 32 (wrap_of key x) ≡ wrap_of key x
wrapped-32 key x k h =
    let n = h.size in
    all_firsts 32 (wrap_of key x)
    (length-wrap key x k h.octets (omega arith) (omega arith) ∙ ap (λ (m : ℕ). 8 * (blocks m + 1)) n)

pub wrapped-24 : (key v : List ℕ) → Key key → Key v → length v ≡ 16 → firsts 24 (wrap_of key v) ≡ wrap_of key v
wrapped-24 key v k h n =
    all_firsts 24 (wrap_of key v) (length-wrap key v k h.small (omega arith) (omega arith) ∙ ap (λ (m : ℕ). 8 * (blocks m + 1)) n)

-- ---- they are octets
pub literal-octets : (l : List ℕ) → all (λ (o : ℕ). ltb o 256) l ≡ true → Octets l
unfolding all
literal-octets [] e = no-octets
literal-octets (o ∷ l) e =
    let p = and_parts (ltb o 256) (all (λ (x : ℕ). ltb x 256) l) e in one-octet o l (ltb-true o 256 p.0) (literal-octets l p.1)

pub wrapped-octets : (key x : List ℕ) → Key key → Octets x → Octets (wrap_of key x)
wrapped-octets key x k o =
    subst Octets (sym (wrap-registers key x k o)) (octets-in-octets (forward key (blocks (length x)) (start_registers x)))

pub firsts-octets : (n : ℕ) (w : List ℕ) → length w ≡ n → Octets w → Octets (firsts n w)
firsts-octets n w e o = subst Octets (sym (all_firsts n w e)) o

pub entry-octets : (i k : ℕ) (w : List ℕ) → i < 256 → k < 256 → Octets (firsts 24 w) → Octets (entry_octets i k w)
unfolding entry_octets all
entry-octets i k w a b o =
    join-octets (0 ∷ 1 ∷ 0 ∷ 32 ∷ 0 ∷ 0 ∷ 0 ∷ i ∷ 0 ∷ 0 ∷ 0 ∷ k ∷ []) (firsts 24 w)
    (literal-octets (0 ∷ 1 ∷ 0 ∷ 32 ∷ 0 ∷ 0 ∷ 0 ∷ i ∷ 0 ∷ 0 ∷ 0 ∷ k ∷ []) (rw (lt-ltb i 256 a, lt-ltb k 256 b))) o

registration-octets : (h n d m : ℕ) (w entries : List ℕ) → h < 256 → n < 256 → d < 256 → m < 256 → Octets (firsts 32 w) →
    Octets entries → Octets (registration_octets h n d m w entries)
unfolding registration_octets gsa_octets selector_octets all
registration-octets h n d m w entries hh hn hd hm o q =
    let first : List ℕ = 51 ∷ 32 ∷ 39 ∷ 0 ∷ 0 ∷ 0 ∷ 0 ∷ 0 ∷ 0 ∷ 0 ∷ h ∷ n ∷ [] in
    let bag : List ℕ =
    0 ∷ 0 ∷ 0 ∷ d ∷ 3 ∷ 4 ∷ 0 ∷ 52 ∷ 1 ∷ 2 ∷ 3 ∷ 4 ∷ 0 ∷ 1 ∷ 0 ∷ 40 ∷ 0 ∷ 0 ∷ 0 ∷ 0 ∷ 0 ∷ 0 ∷ 0 ∷ 0 ∷ [] in
    let last : List ℕ = 0 ∷ 0 ∷ 0 ∷ m ∷ [] in
    join-octets (replicate 16 1) (first ++ (gsa_octets ++ (bag ++ (firsts 32 w ++ (last ++ entries)))))
    (literal-octets (replicate 16 1) refl)
    (join-octets first (gsa_octets ++ (bag ++ (firsts 32 w ++ (last ++ entries))))
    (literal-octets first (rw (lt-ltb h 256 hh, lt-ltb n 256 hn)))
    (join-octets gsa_octets (bag ++ (firsts 32 w ++ (last ++ entries))) (literal-octets gsa_octets refl)
    (join-octets bag (firsts 32 w ++ (last ++ entries)) (literal-octets bag (rw (lt-ltb d 256 hd)))
    (join-octets (firsts 32 w) (last ++ entries) o (join-octets last entries (literal-octets last (rw (lt-ltb m 256 hm))) q)))))

-- ---- each row has octets to speak of
pub record Read (f : Frame) : Type 0 where
  pub octets : List ℕ
  pub small : Octets octets
  pub reads : frame false octets ≡ whole f []

pub laid_out : (f : Frame) (r : Read f) → IsFrame false r.octets f
laid_out f r = read-frame false r.octets f [] r.reads

pub laid-around : (f : Frame) (r : Read f) → IsFrame around.profile r.octets f
unfolding around
laid-around f r = laid_out f r

module _ (lent x v₉ : List ℕ) (key : Key lent) (size : length lent ≡ 16) (keying : Keying x) (w₉ : FitKey lent v₉) where
  x-is : firsts 32 (wrap_of lent x) ≡ wrap_of lent x
  x-is = wrapped-32 lent x key keying

  under : (k v : List ℕ) → Key k → FitKey lent v → firsts 24 (wrap_of k v) ≡ wrap_of k v
  under k v i h = wrapped-24 k v i h.key (h.size ∙ size)

  x-octets : Octets (firsts 32 (wrap_of lent x))
  x-octets = subst Octets (sym x-is) (wrapped-octets lent x key keying.octets)

  under-octets : (k v : List ℕ) → Key k → FitKey lent v → Octets (firsts 24 (wrap_of k v))
  under-octets k v i h = subst Octets (sym (under k v i h)) (wrapped-octets k v i h.key.small)

  pub no-rekey-read : (v₅ : List ℕ) → FitKey lent v₅ →
      Read (registering around (wrap_of lent x) (entry 5 9 (wrap_of v₉ v₅) ∷ entry 9 0 (wrap_of lent v₉) ∷ []))
  no-rekey-read v₅ w₅ = record {
    octets = registration_octets 0 224 132 76 (wrap_of lent x) (entry_octets 5 9 (wrap_of v₉ v₅) ++ entry_octets 9 0 (wrap_of lent v₉));
    small =
        registration-octets 0 224 132 76 (wrap_of lent x) (entry_octets 5 9 (wrap_of v₉ v₅) ++ entry_octets 9 0 (wrap_of lent v₉))
        (omega arith) (omega arith) (omega arith) (omega arith) x-octets
        (join-octets (entry_octets 5 9 (wrap_of v₉ v₅)) (entry_octets 9 0 (wrap_of lent v₉))
        (entry-octets 5 9 (wrap_of v₉ v₅) (omega arith) (omega arith) (under-octets v₉ v₅ w₉.key w₅))
        (entry-octets 9 0 (wrap_of lent v₉) (omega arith) (omega arith) (under-octets lent v₉ key w₉)));
    reads =
        two-read (wrap_of lent x) (wrap_of v₉ v₅) (wrap_of lent v₉)
        ∙ (λ i. whole (registering around (x-is i) (entry 5 9 (under v₉ v₅ w₉.key w₅ i) ∷ entry 9 0 (under lent v₉ key w₉ i) ∷ [])) []);
  }

  pub two-values-read : (v w : List ℕ) → FitKey lent v → FitKey lent w →
      Read (registering around (wrap_of lent x)
      (entry 5 0 (wrap_of lent v) ∷ entry 5 9 (wrap_of v₉ w) ∷ entry 9 0 (wrap_of lent v₉) ∷ []))
  two-values-read v w kv kw = record {
    octets = registration_octets 1 4 168 112 (wrap_of lent x)
        (entry_octets 5 0 (wrap_of lent v) ++ (entry_octets 5 9 (wrap_of v₉ w) ++ entry_octets 9 0 (wrap_of lent v₉)));
    small =
        let a = entry_octets 5 0 (wrap_of lent v) in
        let b = entry_octets 5 9 (wrap_of v₉ w) in
        let c = entry_octets 9 0 (wrap_of lent v₉) in
        registration-octets 1 4 168 112 (wrap_of lent x) (a ++ (b ++ c)) (omega arith) (omega arith) (omega arith) (omega arith) x-octets
        (join-octets a (b ++ c) (entry-octets 5 0 (wrap_of lent v) (omega arith) (omega arith) (under-octets lent v key kv))
        (join-octets b c (entry-octets 5 9 (wrap_of v₉ w) (omega arith) (omega arith) (under-octets v₉ w w₉.key kw))
        (entry-octets 9 0 (wrap_of lent v₉) (omega arith) (omega arith) (under-octets lent v₉ key w₉))));
    reads =
        three-read (wrap_of lent x) (wrap_of lent v) (wrap_of v₉ w) (wrap_of lent v₉)
        ∙ (λ i.
        whole (registering around (x-is i)
        (entry 5 0 (under lent v key kv i) ∷ entry 5 9 (under v₉ w w₉.key kw i) ∷ entry 9 0 (under lent v₉ key w₉ i) ∷ [])) []);
  }

-- a registration with a Member bag that has no entry
pub plain-read : Read (registering around (replicate 32 0) [])
unfolding frame payload body policy suite sa_body selector transform bag attribute many chain chain_up_to number values_of group anywhere around
    selector_octets gsa_octets firsts registration_octets all
plain-read = record {
  octets = registration_octets 0 152 60 4 (replicate 32 0) [];
  small = literal-octets (registration_octets 0 152 60 4 (replicate 32 0) []) refl;
  reads = refl;
}

-- rekeys with D alone over a Rekey SA's SPI x, with each Message ID of the samples
delete_octets : List ℕ → List ℕ → List ℕ
delete_octets x id =
    gen (oct x) 0 16 ++ ((42 ∷ 32 ∷ 41 ∷ 0 ∷ []) ++ (id ++ (0 ∷ 0 ∷ 0 ∷ 40 ∷ 0 ∷ 0 ∷ 0 ∷ 12 ∷ 3 ∷ 4 ∷ 0 ∷ 1 ∷ 1 ∷ 2 ∷ 3 ∷ 4 ∷ [])))

pub record Rekeyed (x : List ℕ) (i : ℕ) : Type 0 where
  pub octets : List ℕ
  pub small : Octets octets
  pub is : Rekeys false x i octets

delete-read : (x : List ℕ) (i a b c d : ℕ) → length x ≡ 16 → Octets x → Octets (a ∷ b ∷ c ∷ d ∷ []) →
    number 4 (a ∷ b ∷ c ∷ d ∷ []) ≡ i → Rekeyed x i
unfolding frame payload body chain chain_up_to number stretches delete_octets all
delete-read x i a b c d n o q e =
    let p : gen (oct x) 0 16 ≡ x = ap (gen (oct x) 0) (sym n) ∙ gen-all x in
    let rest : List ℕ = 0 ∷ 0 ∷ 0 ∷ 40 ∷ 0 ∷ 0 ∷ 0 ∷ 12 ∷ 3 ∷ 4 ∷ 0 ∷ 1 ∷ 1 ∷ 2 ∷ 3 ∷ 4 ∷ [] in
    let id : List ℕ = a ∷ b ∷ c ∷ d ∷ [] in
    let first : List ℕ = 42 ∷ 32 ∷ 41 ∷ 0 ∷ [] in
    record {
      octets = delete_octets x (a ∷ b ∷ c ∷ d ∷ []);
      small =
          join-octets (gen (oct x) 0 16) (first ++ (id ++ rest)) (subst Octets (sym p) o)
          (join-octets first (id ++ rest) (literal-octets first refl) (join-octets id rest q (literal-octets rest refl)));
      is = record {
        spis = (1 ∷ 2 ∷ 3 ∷ 4 ∷ []) ∷ [];
        some = omega arith;
        few = omega arith;
        reads =
            read-frame false (delete_octets x id) (deleting x i ((1 ∷ 2 ∷ 3 ∷ 4 ∷ []) ∷ [])) []
            (λ j. whole (deleting (p j) (e j) ((1 ∷ 2 ∷ 3 ∷ 4 ∷ []) ∷ [])) []);
      };
    }

pub rekeys-read : (x : List ℕ) → length x ≡ 16 → Octets x → Rekeyed x 6 × Rekeyed x 7 × Rekeyed x 9 × Rekeyed x 4294967295
unfolding number all
rekeys-read x n o = (
  delete-read x 6 0 0 0 6 n o (literal-octets (0 ∷ 0 ∷ 0 ∷ 6 ∷ []) refl) refl,
  delete-read x 7 0 0 0 7 n o (literal-octets (0 ∷ 0 ∷ 0 ∷ 7 ∷ []) refl) refl,
  delete-read x 9 0 0 0 9 n o (literal-octets (0 ∷ 0 ∷ 0 ∷ 9 ∷ []) refl) refl,
  delete-read x 4294967295 255 255 255 255 n o (literal-octets (255 ∷ 255 ∷ 255 ∷ 255 ∷ []) refl) refl,
)
