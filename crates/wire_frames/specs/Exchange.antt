-- What differs between exchanges (RFC 9838, section 9.2: GSA_AUTH 39, GSA_REGISTRATION 40, GSA_REKEY 41, GSA_INBAND_REKEY 42), one row
-- each; document 01 says "in a registration" and "in a rekey" where a rule depends on it, document 02's T-02 what holds of the fourth.
-- Whether fresh keys are read depends on the exchange and on the member's profile (document 02, T-11).
use Rattle.std.specs.Prelude.{ℕ, Bool, true, false, ◌&&◌, cond, eqb}
use Rattle.ikev2_numbers.specs.Codes.{gsa_auth, gsa_inband_rekey, gsa_registration, gsa_rekey}
use Rattle.wire_frames.specs.declared.exchanges.Exchange.{Exchange}
use Rattle.wire_frames.specs.declared.exchanges.Wanted.TheVariants as wanted
use Rattle.wire_frames.specs.declared.exchanges.KeyZero.TheVariants as keyZero
use Rattle.wire_frames.specs.declared.exchanges.LeastAfter.TheVariants as least

-- GSA_AUTH and GSA_REGISTRATION, above each field the words of document 01 that it stands for
abbrev pub registration : Exchange
registration = record {
  -- not true: "exchange not one of the three" (2), of the four with T-02's
  admitted = true;
  -- "registration of a non-empty member" (2): what the member must be
  wanted = wanted.Empty;
  -- "rekey whose two SPIs are not the live Rekey SA's" (2)
  compares_spis = false;
  -- "rekey with Message ID below the least acceptable, or none acceptable" (3)
  compares_message_id = false;
  -- "a lent default key not of 16, 24 or 32 octets in a registration" (5)
  judges_lent_key = true;
  -- "a chain starts with the lent default key as key 0"; in a rekey "with the Rekey SA's default key as key 0"
  zero = keyZero.Lent;
  -- "held keys take the place of reached ones in a rekey": a KWK ID can name a held key
  names_held_keys = false;
  -- not true: "Member bag in a rekey" (4)
  allows_member_bag = true;
  -- not true: "D in a registration"; true: "neither (unless a rekey has D)" (4)
  allows_deletes = false;
  -- "SA_KEY count not 1 (for a Rekey SA in a rekey: 0)" (6): a Rekey SA may have several copies
  allows_copies = false;
  -- "Rekey has exactly one each of type 1, type 13 (one of the three) and the controller authentication type" (5), in every exchange
  authentication = true;
  -- "After a registration the held list is now the chain that opens the Rekey SA's SA_KEY" (document 02, T-04); "a rekey leaves it"
  registers = true;
  -- with no new Rekey SA "a registration sets 0 and a rekey sets it to its own plus 1"
  least = least.Zero;
  -- "new tree keys in the multicast rekey"; "Elsewhere .. the attribute is skipped." (document 02, T-11)
  reads_fresh_keys = false;
}

-- GSA_REKEY, by the same words
abbrev pub rekey : Exchange
rekey = record {
  admitted = true;
  wanted = wanted.Any;
  compares_spis = true;
  compares_message_id = true;
  judges_lent_key = false;
  zero = keyZero.RekeySa;
  names_held_keys = true;
  allows_member_bag = false;
  allows_deletes = true;
  allows_copies = true;
  authentication = true;
  registers = false;
  least = least.OwnPlusOne;
  reads_fresh_keys = true;
}

-- GSA_INBAND_REKEY, above each field the words of document 02's T-02 that it stands for
abbrev pub inband : Exchange
inband = record {
  -- "Number 2 now admits a fourth exchange"
  admitted = true;
  -- "refuses it for an empty member" (2)
  wanted = wanted.NotEmpty;
  -- "and does not compare its SPIs" (2)
  compares_spis = false;
  -- "number 3 is not judged, because IKEv2 guards its order"
  compares_message_id = false;
  -- "Number 5 judges the lent key's size as in a registration."
  judges_lent_key = true;
  -- "It comes with a lent default key of the member's IKE SA."; "Its key 0 is the lent key"
  zero = keyZero.Lent;
  -- "held keys, in demand 3 too, are for GSA_REKEY only"
  names_held_keys = false;
  -- "A Member bag or D in it is number 4"
  allows_member_bag = false;
  allows_deletes = false;
  -- "a Rekey SA has exactly one SA_KEY, in number 6"
  allows_copies = false;
  -- in every exchange, as document 01 says
  authentication = true;
  -- "The held list stays."
  registers = false;
  -- "The least Message ID changes only if a new Rekey SA comes."
  least = least.Kept;
  -- "Elsewhere .. the attribute is skipped." (T-11)
  reads_fresh_keys = false;
}

-- every other exchange type: it is not taken (number 2)
abbrev pub other : Exchange
other = record {
  admitted = false;
  wanted = wanted.Any;
  compares_spis = false;
  compares_message_id = false;
  judges_lent_key = false;
  zero = keyZero.Lent;
  names_held_keys = false;
  allows_member_bag = true;
  allows_deletes = true;
  allows_copies = true;
  authentication = false;
  registers = false;
  least = least.Zero;
  reads_fresh_keys = false;
}

abbrev pub exchange_of : ℕ → Exchange
exchange_of x =
    cond (eqb x gsa_auth) registration (cond (eqb x gsa_registration) registration
    (cond (eqb x gsa_rekey) rekey (cond (eqb x gsa_inband_rekey) inband other)))

-- WHETHER FRESH KEYS ARE READ in a frame with the exchange type `x` that a member with this `profile` gets (document 02, T-11): "Elsewhere,
-- and with the profile off, the attribute is skipped."
abbrev pub reads_fresh : Bool → ℕ → Bool
reads_fresh profile x = profile && (exchange_of x).reads_fresh_keys
