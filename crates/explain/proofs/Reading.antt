-- A source that is read meanwhile.
use Rattle.std.proofs.Common.{◌≡◌, ℕ, ◌+◌, ◌-◌, ◌≤◌, Bool, false, List, [], ◌++◌, length, take, drop, Some, None, refl, sym, ap, subst, ◌∙◌, append_assoc, arith}
use Rattle.std.proofs.lemmas.List.{append-nil, take-append-drop, length-append}
use Rattle.std.specs.declared.option.Option.{Option}
use Rattle.std.specs.Io.KnownBytes.{Consumes, Keeps, IsAtEnd}
use Rattle.narrator.specs.State.{StateData, start}
use Rattle.explain.specs.ReportSoFar.{Stand, IsReportSoFar, TellingWasStopped, Ended}
use Rattle.explain.specs.Reading.{ReadAll, ReadSome}
use Rattle.explain.specs.ToldLines.{Way, Explained, BrokenOff, most_read}
use Rattle.explain.proofs.Coming.{beginning, stopped_still, so_far_start}

pub Consumes-none : (known : Option (List ℕ)) → Consumes known known []
Consumes-none None = tt
Consumes-none (Some xs) = refl

pub Consumes-more : (old mid new : Option (List ℕ)) (a b : List ℕ) → Consumes old mid a → Consumes mid new b → Consumes old new (a ++ b)
Consumes-more None mid new a b p q = tt
Consumes-more (Some xs) None new a b p q = absurd p
Consumes-more (Some xs) (Some ys) None a b p q = absurd q
Consumes-more (Some xs) (Some ys) (Some zs) a b p q = p ∙ ap (λ (t : List ℕ). a ++ t) q ∙ sym (append_assoc a b zs)

pub Consumes-keeps : (old mid new : Option (List ℕ)) (a : List ℕ) → Consumes old mid a → Keeps mid new → Consumes old new a
Consumes-keeps None mid new a p q = tt
Consumes-keeps (Some xs) None new a p q = absurd p
Consumes-keeps (Some xs) (Some ys) None a p q = absurd q
Consumes-keeps (Some xs) (Some ys) (Some zs) a p q = p ∙ ap (λ (t : List ℕ). a ++ t) (sym q)

-- so much was read and has come; so much may still be read
pub record IsReading (all : Way) (pending : List ℕ) (long : Stand) (left left_after first held : Option (List ℕ)) (room : ℕ) : Type 0 where
  pub input : List ℕ
  pub read : Consumes left left_after input
  pub many : most_read ≤ length input + room
  pub so_far : IsReportSoFar all pending long input first held

pub reading_start : (all : Way) (long : Stand) (p : List ℕ) (left first held : Option (List ℕ)) → IsReportSoFar all p long [] first held
    → IsReading all p long left left first held most_read
reading_start all long p left first held s = record { input = []; read = Consumes-none left; many = omega arith; so_far = s }

-- a chunk has come
pub reading_more : (all : Way) (long : Stand) (all' : Way) (long' : Stand) (p p' chunk : List ℕ) (count room : ℕ) (left mid new first held held' : Option (List ℕ)) → length chunk ≡ count
    → IsReading all p long left mid first held room → Consumes mid new chunk
    → ((seen : List ℕ) (f : Option (List ℕ)) → IsReportSoFar all p long seen f held → IsReportSoFar all' p' long' (seen ++ chunk) f held')
    → IsReading all' p' long' left new first held' (room - count)
reading_more all long all' long' p p' chunk count room left mid new first held held' size r more on = record {
  input = r.input ++ chunk;
  read = Consumes-more left mid new r.input chunk r.read more;
  many = omega (arith, length-append r.input chunk, r.many);
  so_far = on r.input first r.so_far;
}

-- the end
pub reading_end : (all : Way) (long : Stand) (p : List ℕ) (room : ℕ) (left mid new first held : Option (List ℕ)) → IsReading all p long left mid first held room
    → Consumes mid new [] → IsAtEnd new → ReadAll all p long left new first held
reading_end all long p room left mid new first held r none end = record {
  input = r.input;
  read = subst (λ (t : List ℕ). Consumes left new t) (append-nil r.input) (Consumes-more left mid new r.input [] r.read none);
  end = λ h. end;
  so_far = r.so_far;
}

-- or the most was read
pub reading_full : (all : Way) (long : Stand) (p : List ℕ) (room : ℕ) (left new first held : Option (List ℕ)) → IsReading all p long left new first held room → room ≤ 0
    → ReadAll all p long left new first held
reading_full all long p room left new first held r none = record {
  input = r.input;
  read = r.read;
  end = λ h. absurd (omega (arith, r.many));
  so_far = r.so_far;
}

-- the source failed
pub reading_broken : (all : Way) (long : Stand) (p : List ℕ) (room : ℕ) (left mid new first held : Option (List ℕ)) → IsReading all p long left mid first held room → Keeps mid new
    → ReadSome all left new first held
reading_broken all long p room left mid new first held r kept = record {
  input = r.input;
  later = [];
  read = subst (λ (t : List ℕ). Consumes left new t) (sym (append-nil r.input)) (Consumes-keeps left mid new r.input r.read kept);
  stopped = stopped_still all long p r.input first held r.so_far;
}

-- the lines stopped within a chunk
pub reading_stopped : (all : Way) (long : Stand) (p chunk : List ℕ) (room : ℕ) (left mid new first held held' : Option (List ℕ)) → IsReading all p long left mid first held room
    → Consumes mid new chunk
    → ((seen : List ℕ) (f : Option (List ℕ)) → IsReportSoFar all p long seen f held → (taken : ℕ) × TellingWasStopped all (seen ++ take taken chunk) f held')
    → ReadSome all left new first held'
reading_stopped all long p chunk room left mid new first held held' r more stops =
    let s = stops r.input first r.so_far in record {
      input = r.input ++ take s.0 chunk;
      later = drop s.0 chunk;
      read = subst (λ (t : List ℕ). Consumes left new t)
          (ap (λ (t : List ℕ). r.input ++ t) (sym (take-append-drop s.0 chunk)) ∙ sym (append_assoc r.input (take s.0 chunk) (drop s.0 chunk)))
          (Consumes-more left mid new r.input chunk r.read more);
      stopped = s.1;
    }

-- all was read, and what stands behind the last newline was handed on, or a front of it
pub explained : (all : Way) (long : Stand) (p : List ℕ) (left new first held held' : Option (List ℕ)) → ReadAll all p long left new first held
    → ((seen : List ℕ) (f : Option (List ℕ)) → IsReportSoFar all p long seen f held → Ended all seen f held') → Explained all left new first held'
explained all long p left new first held held' r on =
    let e = on r.input first r.so_far in record {
      input = r.input;
      output = e.output;
      explains = e.explains;
      read = r.read;
      end = r.end;
      written = e.written;
    }

pub explained_front : (all : Way) (long : Stand) (p : List ℕ) (left new first held held' : Option (List ℕ)) → ReadAll all p long left new first held
    → ((seen : List ℕ) (f : Option (List ℕ)) → IsReportSoFar all p long seen f held → TellingWasStopped all seen f held') → BrokenOff all left new first held'
explained_front all long p left new first held held' r on =
    let e = on r.input first r.so_far in record {
      input = r.input;
      later = [];
      output = e.output;
      explains = e.explains;
      read = subst (λ (t : List ℕ). Consumes left new t) (sym (append-nil r.input)) r.read;
      written = e.written;
    }

pub broken_some : (all : Way) (left new first held : Option (List ℕ)) → ReadSome all left new first held → BrokenOff all left new first held
broken_some all left new first held r = record {
  input = r.input;
  later = r.later;
  output = r.stopped.output;
  explains = r.stopped.explains;
  read = r.read;
  written = r.stopped.written;
}

-- nothing was read
pub broken_start : (all : Way) (left first : Option (List ℕ)) → BrokenOff all left left first first
broken_start all left first = let s = stopped_still all beginning [] [] first first (so_far_start all first) in record {
  input = [];
  later = [];
  output = s.output;
  explains = s.explains;
  read = Consumes-none left;
  written = s.written;
}

-- a teller before the first byte
pub so_far_begin : (all : Way) (long : Bool) (state : StateData) (p : List ℕ) (first : Option (List ℕ)) → p ≡ [] → long ≡ false → state ≡ start
    → IsReportSoFar all p (record { long = long; state = state }) [] first first
so_far_begin all long state p first none short from =
    subst (λ (t : List ℕ). IsReportSoFar all t (record { long = long; state = state }) [] first first) (sym none)
    (subst (λ (l : Bool). IsReportSoFar all [] (record { long = l; state = state }) [] first first) (sym short)
    (subst (λ (s : StateData). IsReportSoFar all [] (record { long = false; state = s }) [] first first) (sym from) (so_far_start all first)))
