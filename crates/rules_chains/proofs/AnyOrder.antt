-- ORDER DOES NOT MATTER to chains (document 02, T-14). Chains, copies, numbers 8 and 9, the values of keys and the working key path go by
-- which entries and which copies there are (`In`), and not by where they stand.
use Prim.Native.Nat.{ℕ}
use mathlib.Core.Path.{◌≡◌}
use mathlib.Core.List.{List, [], ◌∷◌}
use Rattle.wire_attributes.specs.Tree.{WrapKey, SaKey}
use Rattle.rules_chains.specs.Chain.{In, Root, Extended, Chain, root, step, Reached, CopyOpens}
use Rattle.rules_chains.specs.Refusals.{Announced, EntriesConflict, CopiesConflict, Value, KeyOf}
use Rattle.rules_chains.specs.Refusals as refusals
use Rattle.rules_chains.specs.Path.{Opener, KeyPath, Keys, no_key, one_more}

-- the second list has whatever stands in the first
abbrev pub Among : {A : Type 0} → List A → List A → Type 0
Among {A} l m = (a : A) → In a l → In a m

module _ (roots : List Root) (size : ℕ) {entries others : List WrapKey} (into : Among entries others) where
  extended-into : (passed : List WrapKey) (v : List ℕ) → Extended roots entries size passed v → Extended roots others size passed v
  extended-into [] v t = tt
  extended-into (e ∷ passed) v t = t

  pub chain-into : (passed : List WrapKey) (k : ℕ) (v : List ℕ) → Chain roots entries size passed k v → Chain roots others size passed k v
  chain-into _ _ _ (root r m) = root r m
  chain-into _ _ _ (step {passed = p} {k = k} {v = v} e c t l) =
      step e (chain-into p k v c) (extended-into p v t) (record { entry = into e l.entry; names = l.names; opens = l.opens })

  pub reached-into : (k : ℕ) (x : List ℕ) → Reached roots entries size k x → Reached roots others size k x
  reached-into k x r = record { last = r.last; before = r.before; chain = chain-into (r.last ∷ r.before) k x r.chain }

  pub entries-into : EntriesConflict roots entries size → EntriesConflict roots others size
  entries-into (refusals.wrong_size k x r f) = refusals.wrong_size k x (reached-into k x r) f
  entries-into (refusals.two-values k x y r q f) = refusals.two-values k x y (reached-into k x r) (reached-into k y q) f

  module _ {copies more : List SaKey} (among : Among copies more) where
    pub copy-into : (x : List ℕ) → CopyOpens roots entries size copies x → CopyOpens roots others size more x
    copy-into x o =
        record {
          copy = o.copy;
          stands = among o.copy o.stands;
          value = o.value;
          named =
              record { passed = o.named.passed; chain = chain-into o.named.passed o.copy.kwk_id o.value o.named.chain };
          opens = o.opens;
        }

    pub opener-into : (passed : List WrapKey) → Opener roots entries size copies passed → Opener roots others size more passed
    opener-into passed o =
        record {
          copy = o.copy;
          stands = among o.copy o.stands;
          value = o.value;
          chain = chain-into passed o.copy.kwk_id o.value o.chain;
          octets = o.octets;
          opens = o.opens;
        }

  pub copies-into : (a b : Announced) → Among a.copies b.copies → a.need ≡ b.need → CopiesConflict roots entries size a →
      CopiesConflict roots others size b
  copies-into a b among e (refusals.wrong_size x o d) = refusals.wrong_size x (copy-into among x o) (rw (e) at d)
  copies-into a b among e (refusals.two-values x y o p d) = refusals.two-values x y (copy-into among x o) (copy-into among y p) d

-- both ways: the same entries in any order
module _ (roots : List Root) (size : ℕ) {entries others : List WrapKey} (into : Among entries others) (back : Among others entries) where
  pub value-kept : (k : ℕ) (x : List ℕ) → Value roots entries size k x → Value roots others size k x
  value-kept k x v =
      record {
        reached = reached-into roots size into k x v.reached;
        every = λ y r. v.every y (reached-into roots size back k y r);
      }

  pub keys_kept : (ids : List ℕ) (keys : List Root) → Keys roots entries size ids keys → Keys roots others size ids keys
  keys_kept _ _ no_key = no_key
  keys_kept _ _ (one_more {i = i} {l = l} {x = x} {m = m} v k) = one_more (value-kept i x v) (keys_kept l m k)

  pub key-kept : (a b : Announced) → Among a.copies b.copies → Among b.copies a.copies → (x : List ℕ) →
      KeyOf roots entries size a x → KeyOf roots others size b x
  key-kept a b among other x k =
      record {
        opens = copy-into roots size into among x k.opens;
        every = λ y o. k.every y (copy-into roots size back other y o);
      }

  pub path-kept : {copies more : List SaKey} → Among copies more → Among more copies → (ids : List ℕ) (end : ℕ) →
      KeyPath roots entries size copies ids end → KeyPath roots others size more ids end
  unfolding opener-into
  path-kept among other ids end p =
      record {
        passed = p.passed;
        opener = opener-into roots size into among p.passed p.opener;
        written = p.written;
        ends = p.ends;
        fewest = λ q o. p.fewest q (opener-into roots size back other q o);
        smallest = λ q o e. p.smallest q (opener-into roots size back other q o) e;
        lowest = λ q o e. p.lowest q (opener-into roots size back other q o) e;
      }
