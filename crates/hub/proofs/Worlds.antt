-- The worlds of the examples are sound, and steps join them.
use Rattle.std.{proofs.{Common.{◌≡◌, ◌==◌, inl, inr, true, false, [], ◌∷◌, ◌++◌, refl, sym, ◌∙◌, ap, arith}, lemmas.Bool.true≢false}, specs.Fmt.digits}
use Rattle.{std.specs.{Prelude.{◌≢◌, codes}, Str.{bytes_eq, chars, is_utf8}}, serde_json.proofs.OnLiterals.serde_json_on_literals}
use Rattle.{iodef_tree.specs.{Reading.{all_fit, reading}, Text.{Bytes, Tokens}}, marking.specs.Marks.incident_path, redact.proofs.InOrder.contains_in}
use Rattle.{circle.specs.Sound.SoundOrgs, hub_core.specs.{Examples.{body, circle as small_circle, incident, lines}, Sound.{IsAccepted, IsSound}}}
use Rattle.{hub_core.specs.Sound.SoundIncidents, hub.specs.Examples.{StepsJoin, EndsAreAlike, EachIsServed, reader, keyed_circle, two_red, rewritten, one_red}}
use Rattle.hub.specs.{Examples.{bank_report, first, with_other_words, without_last_event, with_second_incident, with_other_rows}, Told.standing_at}
use Rattle.circle.specs.Sound as circle

abbrev event_at : Bytes → Tokens
event_at n = incident_path ++ codes "EventData" ∷ n ∷ []

differ : (a b : Bytes) → bytes_eq a a ≡ true → bytes_eq b a ≡ false → a ≢ b
differ a b same other h = true≢false (sym same ∙ ap (λ k. bytes_eq k a) h ∙ other)

-- ---- documents

two_red_accepted : IsAccepted two_red
unfolding serde_json_on_literals digits chars is_utf8 all_fit reading
two_red_accepted = record {
  body = codes "{\"Incident\":[{\"Contact\":[],\"EventData\":[{\"Description\":[\"seen\"]},{\"Description\":[\"x\"],\"restriction\":\"red\"},{\"restriction\":\"red\"}],\"GenerationTime\":\"g\",\"IncidentID\":\"7\",\"purpose\":\"p\",\"restriction\":\"public\"}]}";
  docs = two_red ∷ [];
  read = refl;
  among = contains_in (two_red ∷ []) two_red (inl refl);
  marked = refl;
}

rewritten_accepted : IsAccepted rewritten
unfolding serde_json_on_literals digits chars is_utf8 all_fit reading
rewritten_accepted = record {
  body = codes "{\"Incident\":[{\"Contact\":[],\"EventData\":[{\"Description\":[\"seen\"]},{\"Description\":[\"y\",\"z\"],\"restriction\":\"red\"},{\"restriction\":\"red\"}],\"GenerationTime\":\"g\",\"IncidentID\":\"7\",\"purpose\":\"p\",\"restriction\":\"public\"}]}";
  docs = rewritten ∷ [];
  read = refl;
  among = contains_in (rewritten ∷ []) rewritten (inl refl);
  marked = refl;
}

one_red_accepted : IsAccepted one_red
unfolding serde_json_on_literals digits chars is_utf8 all_fit reading
one_red_accepted = record {
  body = codes "{\"Incident\":[{\"Contact\":[],\"EventData\":[{\"Description\":[\"seen\"]},{\"Description\":[\"y\",\"z\"],\"restriction\":\"red\"}],\"GenerationTime\":\"g\",\"IncidentID\":\"7\",\"purpose\":\"p\",\"restriction\":\"public\"}]}";
  docs = one_red ∷ [];
  read = refl;
  among = contains_in (one_red ∷ []) one_red (inl refl);
  marked = refl;
}

lines_accepted : IsAccepted lines
unfolding serde_json_on_literals digits chars is_utf8 all_fit reading
lines_accepted = record {
  body = body;
  docs = lines ∷ [];
  read = refl;
  among = contains_in (lines ∷ []) lines (inl refl);
  marked = refl;
}

-- ---- the circle

orgs_sound : SoundOrgs small_circle.orgs
orgs_sound = record {
  numbered = ((refl, (refl, (refl, tt))), omega arith);
  names = ((differ (codes "bank") (codes "insurer") refl refl, (differ (codes "bank") (codes "university") refl refl, tt)), ((differ (codes "insurer") (codes "university") refl refl, tt), (tt, tt)));
}

circle_sound : circle.IsSound keyed_circle
circle_sound = record {
  orgs = orgs_sound;
  accounts = record {
    numbered = ((refl, (refl, (refl, tt))), omega arith);
    keys = ((differ (1 ∷ []) (2 ∷ []) refl refl, (differ (1 ∷ []) (3 ∷ []) refl refl, tt)), ((differ (2 ∷ []) (3 ∷ []) refl refl, tt), (tt, tt)));
    ends = (refl, (refl, (refl, tt)));
  };
  clients = record { rising = (tt, tt); ends = ((refl, refl), tt) };
  communities = record {
    numbered = ((refl, (refl, tt)), omega arith);
    names = ((differ (codes "money") (codes "science") refl refl, tt), (tt, tt));
  };
  memberships = record { rising = ((refl, (refl, tt)), ((refl, tt), (tt, tt))); ends = ((refl, refl), ((refl, refl), ((refl, refl), tt))) };
  connections = record { rising = (tt, tt); ends = ((omega arith, refl, refl), tt) };
  groups = record { numbered = ((refl, tt), omega arith); names = (tt, tt); ends = (refl, tt) };
  group_members = record { rising = ((refl, tt), (tt, tt)); ends = ((refl, refl), ((refl, refl), tt)) };
  arrangements = record { rising = (tt, tt); ends = ((refl, refl), tt) };
}

other_circle_sound : circle.IsSound with_other_rows.directory
other_circle_sound = record {
  orgs = orgs_sound;
  accounts = record {
    numbered = ((refl, (refl, (refl, tt))), omega arith);
    keys = circle_sound.accounts.keys;
    ends = (refl, (refl, (refl, tt)));
  };
  clients = circle_sound.clients;
  communities = circle_sound.communities;
  memberships = circle_sound.memberships;
  connections = circle_sound.connections;
  groups = circle_sound.groups;
  group_members = record { rising = ((refl, tt), (tt, tt)); ends = ((refl, refl), ((refl, refl), tt)) };
  arrangements = record { rising = tt; ends = tt };
}

-- ---- worlds

first_sound : IsSound first
unfolding serde_json_on_literals digits
first_sound = record {
  directory = circle_sound;
  incidents = record {
    numbered = ((refl, tt), omega arith);
    idents = (tt, tt);
    sources = (refl, tt);
    revisions = (omega arith, tt);
    communities = (tt, tt);
    documents = (two_red_accepted, tt);
    follow = (refl, tt);
  };
  gates = record { rising = (tt, tt); places = (refl, tt); ends = (tt, tt); roots = (refl, tt); limit = (omega arith, tt) };
  recipients = record { rising = tt; ends = tt; targets = tt; limit = (omega arith, tt) };
  permissions = record { rising = (tt, tt); places = (refl, tt); grantees = (refl, tt); limit = (omega arith, tt) };
}

other_words_sound : IsSound with_other_words
unfolding serde_json_on_literals digits
other_words_sound = record {
  directory = circle_sound;
  incidents = record {
    numbered = ((refl, tt), omega arith);
    idents = (tt, tt);
    sources = (refl, tt);
    revisions = (omega arith, tt);
    communities = (tt, tt);
    documents = (rewritten_accepted, tt);
    follow = (refl, tt);
  };
  gates = record { rising = (tt, tt); places = (refl, tt); ends = (tt, tt); roots = (refl, tt); limit = (omega arith, tt) };
  recipients = record { rising = tt; ends = tt; targets = tt; limit = (omega arith, tt) };
  permissions = record { rising = (tt, tt); places = (refl, tt); grantees = (refl, tt); limit = (omega arith, tt) };
}

last_event_sound : IsSound without_last_event
unfolding serde_json_on_literals digits
last_event_sound = record {
  directory = circle_sound;
  incidents = record {
    numbered = ((refl, tt), omega arith);
    idents = (tt, tt);
    sources = (refl, tt);
    revisions = (omega arith, tt);
    communities = (tt, tt);
    documents = (one_red_accepted, tt);
    follow = (refl, tt);
  };
  gates = record { rising = (tt, tt); places = (refl, tt); ends = (tt, tt); roots = (refl, tt); limit = (omega arith, tt) };
  recipients = record { rising = tt; ends = tt; targets = tt; limit = (omega arith, tt) };
  permissions = record { rising = tt; places = tt; grantees = tt; limit = (omega arith, tt) };
}

two_incidents_sound : SoundIncidents keyed_circle with_second_incident.incidents
unfolding serde_json_on_literals digits
two_incidents_sound = record {
  numbered = ((refl, (refl, tt)), omega arith);
  idents = ((λ h. true≢false (ap (λ k. k.0 == 1) h), tt), (tt, tt));
  sources = (refl, (refl, tt));
  revisions = (omega arith, (omega arith, tt));
  communities = (tt, (tt, tt));
  documents = (one_red_accepted, (lines_accepted, tt));
  follow = (refl, (refl, tt));
}

second_incident_sound : IsSound with_second_incident
unfolding digits
second_incident_sound = record {
  directory = circle_sound;
  incidents = two_incidents_sound;
  gates = record { rising = ((refl, tt), (tt, tt)); places = (refl, (refl, tt)); ends = (tt, (tt, tt)); roots = (refl, (refl, tt)); limit = (omega arith, (omega arith, tt)) };
  recipients = record { rising = tt; ends = tt; targets = tt; limit = (omega arith, (omega arith, tt)) };
  permissions = record { rising = tt; places = tt; grantees = tt; limit = (omega arith, (omega arith, tt)) };
}

other_rows_sound : IsSound with_other_rows
unfolding digits
other_rows_sound = record {
  directory = other_circle_sound;
  incidents = record {
    numbered = two_incidents_sound.numbered;
    idents = two_incidents_sound.idents;
    sources = two_incidents_sound.sources;
    revisions = two_incidents_sound.revisions;
    communities = two_incidents_sound.communities;
    documents = two_incidents_sound.documents;
    follow = two_incidents_sound.follow;
  };
  gates = second_incident_sound.gates;
  recipients = record { rising = (tt, tt); ends = (refl, tt); targets = (refl, tt); limit = (omega arith, (omega arith, tt)) };
  permissions = record { rising = (tt, tt); places = (refl, tt); grantees = (refl, tt); limit = (omega arith, (omega arith, tt)) };
}

-- ---- steps

pub steps_join : StepsJoin
unfolding standing_at serde_json_on_literals digits chars is_utf8 all_fit reading
steps_join = record {
  plain_lines = record {
    incident = bank_report two_red;
    path = event_at (codes "1");
    document = rewritten;
    there = refl;
    foreign = refl;
    lines = record { class = refl; unseen = refl; label = refl; others = refl; case = refl };
    after = refl;
  };
  hidden_class = record {
    number = 1;
    path = event_at (codes "2");
    below_root = refl;
    foreign = refl;
    first = refl;
    second = refl;
    withheld = refl;
    others = record { directory = refl; incidents = refl; gates = refl; recipients = refl; permissions = refl };
  };
  unseen_incident = record {
    number = 2;
    first_foreign = refl;
    second_foreign = refl;
    first = refl;
    second = refl;
    others = record { directory = refl; incidents = refl; gates = refl; recipients = refl; permissions = refl };
  };
  rows = record { permissions = refl; recipients = refl; accounts = refl; arrangements = refl; group_members = refl; after = refl };
}

pub ends_alike : EndsAreAlike
ends_alike = record {
  sound = first_sound;
  there = contains_in keyed_circle.accounts reader (inr (inl refl));
  between = with_other_words ∷ without_last_event ∷ with_second_incident ∷ with_other_rows ∷ [];
  chain = (inl steps_join.plain_lines, other_words_sound, (inr (inl steps_join.hidden_class), last_event_sound, (inr (inr (inl steps_join.unseen_incident)), second_incident_sound, (inr (inr (inr steps_join.rows)), other_rows_sound, refl))));
}

pub each_served : EachIsServed
unfolding standing_at digits
each_served = refl
